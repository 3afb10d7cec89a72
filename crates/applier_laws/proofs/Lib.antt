pub mod ListLemmas
mod TxnLemmas
pub mod TeamLemmas
mod TurnLemmas
mod MoveLemmas
mod StopLemmas
mod CallLemmas
pub mod RunLemmas
mod WorkedCourse
