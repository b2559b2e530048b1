pub mod ListLemmas
pub mod LoopLemmas
