pub mod Duplicates
pub mod Scripts
