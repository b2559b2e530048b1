pub mod Parameters
pub mod FunctionNames
pub mod Redefined
pub mod Ends
pub mod Functions
pub mod Bodies
pub mod Views
