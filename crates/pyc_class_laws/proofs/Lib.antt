pub mod BaseLemmas
pub mod KnownLemmas
pub mod MergeLemmas
pub mod LawLemmas
pub mod LineLemmas
pub mod NumberLemmas
