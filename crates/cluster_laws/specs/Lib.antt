pub mod Duplicates
pub mod Headline
pub mod OwnCalls
