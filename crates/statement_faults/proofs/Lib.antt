pub mod MergeLemmas
pub mod TreeFaultLemmas
