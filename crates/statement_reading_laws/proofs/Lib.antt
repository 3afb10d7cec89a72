pub mod OpenLemmas
pub mod ReadingLemmas
