pub mod Builtin
pub mod MemberTypes
pub mod Members
pub mod Names
pub mod MroTable
pub mod Tables
