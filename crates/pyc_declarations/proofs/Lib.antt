pub mod ReadLemmas
pub mod NotedLemmas
pub mod AliasLemmas
pub mod CarriedLemmas
pub mod CarryLemmas
pub mod EntryLemmas
pub mod EntryTurns
