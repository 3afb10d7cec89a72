mod ListLemmas
mod SessionLemmas
mod ToolLemmas
mod WorkerLemmas
mod ActorLemmas
mod EndLemmas
mod CallLemmas
