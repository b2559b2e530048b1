pub mod ClassBodies
pub mod Bodies
pub mod BodyNames
pub mod BodyTargets
pub mod Views
