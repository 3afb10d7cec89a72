pub mod Actors
pub mod Notes
