pub mod Numbers
pub mod Actors
pub mod Items
pub mod Names
pub mod Sections
