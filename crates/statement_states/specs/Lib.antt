pub mod Slots
pub mod States
pub mod Finishes
pub mod Steps
