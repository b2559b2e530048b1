pub mod CommandWords
pub mod KeptFiles
pub mod Refusals
pub mod Turns
pub mod TouchedFiles
