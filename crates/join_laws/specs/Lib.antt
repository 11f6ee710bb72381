pub mod Replaced
pub mod Limits
pub mod Opened
