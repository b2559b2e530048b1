pub mod Names
pub mod Places
pub mod Messages
pub mod Parameters
pub mod Ancestors
pub mod Obligations
pub mod Overrides
pub mod Views
