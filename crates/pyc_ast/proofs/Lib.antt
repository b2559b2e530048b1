pub mod NameLemmas
pub mod ViewLemmas
pub mod StatementViewLemmas
pub mod TargetViewLemmas
