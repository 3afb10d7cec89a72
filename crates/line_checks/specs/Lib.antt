pub mod Faults
pub mod MarksOf
pub mod Checked
