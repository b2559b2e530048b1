pub mod CheckFiles
pub mod Lines
pub mod Status
pub mod Updates
pub mod Text
pub mod Words
