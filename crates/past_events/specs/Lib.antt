pub mod Joining
pub mod Takes
