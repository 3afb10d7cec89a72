pub mod OwnCalls
pub mod Standing
