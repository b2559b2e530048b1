pub mod CheckLemmas
pub mod ListedLemmas
pub mod OrderLemmas
pub mod ReadLemmas
pub mod Steps
pub mod UnitLemmas
