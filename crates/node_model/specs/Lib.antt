pub mod Txns
pub mod Node
pub mod LockFacts
pub mod Waits
pub mod Calls
pub mod PutBack
pub mod Kept
