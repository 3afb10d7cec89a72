pub mod FinishLemmas
pub mod FollowLemmas
pub mod OperandLemmas
pub mod StepLemmas
