pub mod TableLemmas
pub mod FrameLemmas
pub mod StartLemmas
pub mod RemoveLemmas
pub mod ViewLemmas
pub mod FreshLemmas
pub mod RollbackLemmas
pub mod PutAllLemmas
