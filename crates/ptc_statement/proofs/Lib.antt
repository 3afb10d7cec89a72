pub mod ActLemmas
pub mod FitLemmas
pub mod KeepLemmas
pub mod KeyLemmas
pub mod KindLemmas
pub mod NumberLemmas
pub mod ReachLemmas
pub mod TableLemmas
