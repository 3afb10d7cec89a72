pub mod EachLemmas
pub mod StillLemmas
pub mod ReplayLemmas
pub mod GoodLemmas
pub mod OrderLemmas
pub mod RoundLemmas
pub mod CycleLemmas
