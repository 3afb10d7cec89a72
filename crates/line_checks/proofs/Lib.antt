pub mod MarkLemmas
pub mod OrderLemmas
mod CheckLemmas
