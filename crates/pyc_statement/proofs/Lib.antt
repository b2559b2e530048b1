pub mod NameSteps
pub mod StatementSteps
pub mod ReadingSteps
