pub mod NodeRows
pub mod Holds
pub mod Puts
