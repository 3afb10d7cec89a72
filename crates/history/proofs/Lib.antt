pub mod EqualLemmas
pub mod ReplayLemmas
pub mod VerdictLemmas
