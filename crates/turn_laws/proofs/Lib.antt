pub mod StayLemmas
pub mod LogLemmas
mod CallLemmas
pub mod SessionLogs
pub mod ToolLogs
pub mod SessionCalls
pub mod WorkerCalls
pub mod ToolCalls
