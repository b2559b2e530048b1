pub mod Rows
pub mod Same
pub mod SameSplit
pub mod Deep
