pub mod CutLemmas
pub mod ReservedLemmas
pub mod FirstLemmas
pub mod ListLemmas
pub mod NumberLemmas
pub mod OneListLemmas
