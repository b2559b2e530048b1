pub mod Contexts
pub mod Names
pub mod Operations
pub mod Subscripting
pub mod Choices
pub mod CallValues
pub mod ChainView
pub mod Laws
