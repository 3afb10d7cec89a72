pub mod GoodLemmas
pub mod KeepLemmas
