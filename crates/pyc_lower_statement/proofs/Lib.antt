pub mod ItemLemmas
pub mod SuspensionLemmas
pub mod TargetLemmas
pub mod ParameterLemmas
pub mod HeaderLemmas
