pub mod Reads
pub mod Gains
pub mod Readings
pub mod ReadBy
pub mod CheckChanges
pub mod ReadLaws
