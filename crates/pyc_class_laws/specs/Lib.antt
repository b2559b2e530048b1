pub mod ClassLaws
pub mod KnownMros
