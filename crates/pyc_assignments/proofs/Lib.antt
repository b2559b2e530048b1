pub mod Targets
pub mod Turns
