pub mod Lies
pub mod Runs
pub mod Low
