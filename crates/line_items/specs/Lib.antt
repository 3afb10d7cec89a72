pub mod Items
pub mod Literals
pub mod Counted
pub mod Readings
