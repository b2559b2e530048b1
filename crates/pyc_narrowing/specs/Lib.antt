pub mod SplitStates
pub mod SplitView
pub mod Splitting
