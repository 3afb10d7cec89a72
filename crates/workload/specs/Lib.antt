pub mod Played
pub mod Gives
