pub mod TextLemmas
pub mod Steps
pub mod NameLemmas
