pub mod Values
pub mod Tables
pub mod Rows
pub mod Lines
