pub mod SuspensionLemmas
pub mod JoinLemmas
pub mod BlockLemmas
