pub mod Fetches
pub mod Sumless
