pub mod Scopes
pub mod ScopeView
pub mod Bindings
pub mod BindingView
pub mod Decorators
pub mod Redefinitions
pub mod RedefinitionView
pub mod FirstBindings
