pub mod TreeFaults
