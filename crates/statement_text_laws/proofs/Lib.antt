pub mod OneTextLemmas
pub mod CanonicalLemmas
pub mod ConditionLemmas
pub mod SpelledLemmas
pub mod ExprTextLemmas
pub mod CondTextLemmas
pub mod StatementTextLemmas
