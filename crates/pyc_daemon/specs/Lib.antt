pub mod Body
pub mod Counted
pub mod Reading
pub mod Replies
pub mod Runs
pub mod ReadBuffer
