pub mod QuoteLemmas
pub mod PartLemmas
