mod ListLemmas
mod SplitLemmas
pub mod ScriptLemmas
mod NumberLemmas
mod TestLemmas
pub mod RuleLemmas
pub mod LimitLemmas
pub mod CountLemmas
pub mod DeclareLemmas
pub mod ScheduleLemmas
