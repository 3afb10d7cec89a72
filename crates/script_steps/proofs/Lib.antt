pub mod StepLemmas
pub mod CountLemmas
