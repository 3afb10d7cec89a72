pub mod FinishLemmas
pub mod ReadLemmas
mod CountLemmas
