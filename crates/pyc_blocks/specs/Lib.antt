pub mod Flows
pub mod Parts
pub mod Blocks
pub mod Views
