pub mod Known
pub mod Turns
pub mod Others
