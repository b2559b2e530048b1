pub mod Meanings
pub mod Annotations
pub mod Bases
pub mod Views
