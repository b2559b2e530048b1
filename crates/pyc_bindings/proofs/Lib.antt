pub mod PlaceLemmas
pub mod AgainLemmas
