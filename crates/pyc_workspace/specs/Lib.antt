pub mod Files
pub mod Fresh
pub mod FreshLaws
pub mod Path
pub mod Workspace
pub mod ModuleCounts
pub mod ReportedView
