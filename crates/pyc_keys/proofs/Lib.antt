pub mod NumberingLemmas
pub mod TableLemmas
pub mod MarkLemmas
pub mod NameLemmas
