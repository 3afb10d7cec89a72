pub mod Trees
pub mod Operands
pub mod RowTests
