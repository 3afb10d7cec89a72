pub mod CloseLemmas
pub mod LevelLemmas
