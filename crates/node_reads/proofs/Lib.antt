pub mod ChangeLemmas
pub mod ReadingLemmas
pub mod MetLemmas
pub mod StatementLemmas
pub mod VisitReads
pub mod OthersReads
pub mod KeptReads
pub mod ReadLawLemmas
