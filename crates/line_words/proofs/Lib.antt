pub mod NumberLemmas
pub mod ActorLemmas
pub mod ItemLemmas
pub mod NameLemmas
pub mod SectionLemmas
