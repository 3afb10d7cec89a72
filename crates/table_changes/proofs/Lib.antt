pub mod DoneLemmas
pub mod DueLemmas
pub mod StayLemmas
pub mod WithinLemmas
