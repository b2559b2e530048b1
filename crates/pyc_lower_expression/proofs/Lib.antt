pub mod OtherForms
pub mod ItemLemmas
pub mod LoweredForms
pub mod Loops
