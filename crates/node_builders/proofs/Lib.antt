mod AskedLemmas
mod NodeLemmas
