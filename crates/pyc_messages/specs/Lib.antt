pub mod Definitions
pub mod Annotations
pub mod Overrides
pub mod Expressions
pub mod Calls
pub mod Functions
pub mod Assignments
