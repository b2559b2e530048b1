pub mod Ended
pub mod Going
pub mod Moving
pub mod Served
