pub mod Plans
pub mod StopsAt
