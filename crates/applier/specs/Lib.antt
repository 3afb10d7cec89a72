pub mod Appliers
pub mod Moves
pub mod ApplierParts
pub mod TeamParts
