pub mod SlotLemmas
pub mod KnownLemmas
pub mod EqualityLemmas
pub mod KeyChangeLemmas
pub mod CarryLemmas
