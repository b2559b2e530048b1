pub mod Expressions
pub mod Forms
