pub mod Lines
pub mod Begins
pub mod Equals
pub mod Headline
