pub mod TextLemmas
pub mod EqualityLemmas
pub mod UnionLemmas
pub mod DistinctLemmas
