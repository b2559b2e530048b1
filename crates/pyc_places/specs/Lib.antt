pub mod Places
pub mod States
pub mod NarrowingView
pub mod StateView
pub mod TargetPlaces
pub mod Lookup
pub mod Once
pub mod Joining
