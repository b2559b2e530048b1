pub mod ReadsTokens
pub mod Parted
pub mod Turns
