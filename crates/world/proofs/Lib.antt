mod JournalLemmas
mod StepLemmas
mod SessionLemmas
mod TurnLemmas
mod CycleLemmas
mod BeginLemmas
mod RoundLemmas
mod RunLemmas
