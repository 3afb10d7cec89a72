mod TakeLemmas
mod RowLemmas
