pub mod ToldLemmas
mod PlainLemmas
mod TableLemmas
mod ActorLemmas
mod RowLemmas
mod StepLemmas
