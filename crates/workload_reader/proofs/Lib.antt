mod NodeLemmas
mod GiveLemmas
