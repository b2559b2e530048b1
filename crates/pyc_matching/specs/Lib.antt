pub mod Matching
pub mod Missing
pub mod Views
