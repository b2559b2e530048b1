pub mod Ignores
pub mod ExpressionInput
pub mod Strings
pub mod Parts
pub mod Reading
