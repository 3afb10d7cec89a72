pub mod Stays
pub mod LogsFit
pub mod TurnCalls
