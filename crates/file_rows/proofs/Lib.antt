mod PutLemmas
mod NumberLemmas
mod NodeLemmas
pub mod HoldLemmas
pub mod ThereLemmas
