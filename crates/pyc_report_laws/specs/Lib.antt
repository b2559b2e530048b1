pub mod FileReports
pub mod Reports
