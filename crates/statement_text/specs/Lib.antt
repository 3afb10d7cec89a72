pub mod ConditionTexts
pub mod StatementTexts
pub mod Texts
pub mod WriterParts
pub mod Written
