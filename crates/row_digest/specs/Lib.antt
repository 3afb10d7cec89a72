pub mod Encoding
pub mod Digest
