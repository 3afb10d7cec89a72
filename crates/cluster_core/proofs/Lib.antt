pub mod EachLemmas
pub mod KeptLemmas
pub mod LiveLemmas
pub mod MoveLemmas
pub mod NodeLemmas
pub mod OrderLemmas
pub mod RunLemmas
pub mod SummaryLemmas
