pub mod BuiltinClasses
pub mod Class
pub mod ClassEquality
pub mod ClassHash
pub mod Mro
