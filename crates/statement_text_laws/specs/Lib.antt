pub mod OneText
pub mod Canonical
pub mod SpelledWords
pub mod StatementWords
