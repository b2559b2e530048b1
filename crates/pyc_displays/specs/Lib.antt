pub mod Expecting
pub mod Messages
pub mod Displays
pub mod Joins
pub mod Views
