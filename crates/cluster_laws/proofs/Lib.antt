pub mod EndLemmas
pub mod EqualLemmas
pub mod EqualLineLemmas
pub mod HeadlineLemmas
pub mod MasterLemmas
pub mod RefusalLemmas
pub mod SessionLemmas
pub mod TableLemmas
