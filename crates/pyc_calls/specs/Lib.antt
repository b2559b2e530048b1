pub mod Constructors
pub mod Remembered
pub mod Called
pub mod Walks
pub mod Laws
pub mod Methods
pub mod Views
