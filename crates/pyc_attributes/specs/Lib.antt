pub mod Binding
pub mod FoundAttributes
pub mod FoundView
pub mod AttributeValues
