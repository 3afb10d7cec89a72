pub mod OpenLemmas
pub mod LineLemmas
