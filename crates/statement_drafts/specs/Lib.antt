pub mod Drafts
pub mod LiteralFaults
pub mod Tables
