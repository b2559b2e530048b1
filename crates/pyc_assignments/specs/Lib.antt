pub mod Reads
pub mod Singles
pub mod Unpacking
pub mod Storing
pub mod Assignments
pub mod Views
