pub mod RowChanges
pub mod Plans
