pub mod Scripts
pub mod ScriptRules
pub mod Counting
pub mod Declarations
pub mod Schedules
pub mod Splits
pub mod Laws
