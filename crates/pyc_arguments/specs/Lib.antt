pub mod Reporting
pub mod Arguments
pub mod Matched
pub mod Views
