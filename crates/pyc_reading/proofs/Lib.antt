pub mod OwingLemmas
pub mod ReadingLemmas
pub mod RunLemmas
pub mod Steps
pub mod ListingLemmas
