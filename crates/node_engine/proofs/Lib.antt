pub mod CommittedLemmas
pub mod PublishedLemmas
pub mod AskLemmas
pub mod EachLemmas
mod BeginLemmas
