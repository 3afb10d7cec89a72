pub mod SpareLemmas
pub mod LinkLemmas
pub mod MeetLemmas
pub mod OtherLemmas
pub mod HereLemmas
pub mod WorldLemmas
pub mod RunLemmas
pub mod ScriptLemmas
