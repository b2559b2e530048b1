pub mod ViewLemmas
pub mod HeightLemmas
pub mod TargetLemmas
pub mod FormLemmas
pub mod Turns
pub mod BlockViewLemmas
