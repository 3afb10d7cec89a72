mod OrderLemmas
mod TableLemmas
mod UnfinishedLemmas
mod ScriptLemmas
