pub mod Targets
pub mod Parameters
pub mod Statements
pub mod Headers
pub mod Suspends
