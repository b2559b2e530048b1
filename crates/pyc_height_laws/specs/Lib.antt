pub mod Heights
pub mod Laws
