pub mod KeptAnswers
pub mod RecorderView
pub mod CheckedView
pub mod ReadLists
pub mod UnitTraceView
