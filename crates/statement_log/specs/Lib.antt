pub mod Positions
pub mod LogView
pub mod LogParts
