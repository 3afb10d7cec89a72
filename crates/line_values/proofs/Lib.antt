mod RangeLemmas
mod RowLemmas
mod TableLemmas
pub mod SchemaLemmas
mod LengthLemmas
pub mod LineLemmas
