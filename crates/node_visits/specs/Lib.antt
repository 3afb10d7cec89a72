pub mod Answers
pub mod Dues
pub mod ReadDues
pub mod Cycles
pub mod NextStarts
