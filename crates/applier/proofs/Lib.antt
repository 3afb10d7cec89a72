mod MoveLemmas
mod StayLemmas
mod TeamLemmas
