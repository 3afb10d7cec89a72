mod NodeLemmas
mod MoveLemmas
pub mod StayLemmas
pub mod ClearLemmas
