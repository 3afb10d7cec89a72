pub mod Tools
pub mod Moves
pub mod Clears
pub mod ToolParts
