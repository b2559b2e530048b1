pub mod NameLemmas
pub mod StateLemmas
pub mod OnceLemmas
pub mod ItemLemmas
pub mod LookupLemmas
