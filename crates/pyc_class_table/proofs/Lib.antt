pub mod NumberLemmas
pub mod BuiltinLemmas
pub mod LawLemmas
