pub mod MirrorLemmas
pub mod MeaningLemmas
