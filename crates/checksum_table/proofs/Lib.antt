pub mod CheckLemmas
pub mod LastLemmas
pub mod MapLemmas
pub mod OrderLemmas
pub mod PlaceLemmas
