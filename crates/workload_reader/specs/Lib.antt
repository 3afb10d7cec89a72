pub mod Nodes
pub mod Reads
