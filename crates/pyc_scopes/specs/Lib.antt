pub mod Literals
pub mod Scopes
pub mod ScopeView
pub mod NamedValues
