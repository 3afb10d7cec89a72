pub mod Locks
pub mod Stops
pub mod Places
pub mod LockView
pub mod LockParts
pub mod FoundKeys
