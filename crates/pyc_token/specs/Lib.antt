pub mod Characters
pub mod Cuts
pub mod Names
pub mod Numbers
pub mod Operators
pub mod Strings
