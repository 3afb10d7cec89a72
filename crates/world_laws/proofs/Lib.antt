pub mod ListLemmas
mod ClientLemmas
mod GrowLemmas
mod SourceLemmas
pub mod ReplicaLemmas
pub mod OwnLemmas
pub mod StepLemmas
pub mod OwnStepLemmas
mod BeginLemmas
pub mod OwnRunLemmas
pub mod SoundLemmas
pub mod RunLemmas
