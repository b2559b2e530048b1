pub mod Origins
pub mod OriginView
pub mod Operators
pub mod Constants
pub mod Roles
