pub mod Commits
pub mod NodeParts
