mod NodeLemmas
mod MoveLemmas
mod PlaceLemmas
pub mod StayLemmas
