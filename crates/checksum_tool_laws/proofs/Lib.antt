mod CoverLemmas
mod ListLemmas
pub mod CallLemmas
pub mod HoldLemmas
mod TurnLemmas
mod MasterLemmas
pub mod RunLemmas
mod StandLemmas
