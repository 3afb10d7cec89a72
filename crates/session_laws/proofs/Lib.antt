mod LineLemmas
mod CallLemmas
mod ListLemmas
mod OwnLemmas
mod LeaveLemmas
mod TurnLemmas
pub mod StandLemmas
