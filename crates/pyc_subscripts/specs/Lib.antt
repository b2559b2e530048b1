pub mod Chosen
pub mod Owners
pub mod OwnerView
pub mod Subscripts
pub mod Iteration
pub mod RequiredView
