pub mod Suspends
pub mod Blocks
pub mod PartsView
