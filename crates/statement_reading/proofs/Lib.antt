pub mod EndLemmas
pub mod TokenFits
