pub mod ClearLemmas
pub mod LimitLemmas
pub mod LineLemmas
pub mod SaidLemmas
pub mod StepLemmas
pub mod MoreLemmas
