pub mod Asked
pub mod Nodes
