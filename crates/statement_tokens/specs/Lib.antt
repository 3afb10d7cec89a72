pub mod Spellings
pub mod Tokens
pub mod FirstToken
