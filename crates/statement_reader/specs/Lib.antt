pub mod Facts
pub mod FactLaws
pub mod Spots
