pub mod FlowLemmas
pub mod SizeLemmas
pub mod Turns
