pub mod Exprs
pub mod ExprView
pub mod Targets
pub mod TargetView
pub mod Statements
pub mod StatementView
pub mod Modules
pub mod Names
