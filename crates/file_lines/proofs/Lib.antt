mod LineLemmas
mod EndLemmas
mod OpeningLemmas
