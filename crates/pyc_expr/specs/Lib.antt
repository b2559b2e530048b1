pub mod Parts
pub mod Values
pub mod Heights
pub mod Laws
pub mod Nesting
