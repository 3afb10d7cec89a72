pub mod GapLemmas
pub mod HoldLemmas
pub mod LeastLemmas
pub mod PlaceLemmas
pub mod OtherLemmas
pub mod ExcluderLemmas
