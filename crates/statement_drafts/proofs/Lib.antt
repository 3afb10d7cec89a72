pub mod LiteralLemmas
pub mod TableLemmas
