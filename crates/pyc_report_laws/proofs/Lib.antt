pub mod FileLemmas
pub mod InLemmas
pub mod ReportLemmas
