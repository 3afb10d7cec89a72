pub mod Readers
pub mod TreeEnds
