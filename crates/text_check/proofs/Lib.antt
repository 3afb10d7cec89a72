mod AnswerLemmas
mod TableLemmas
