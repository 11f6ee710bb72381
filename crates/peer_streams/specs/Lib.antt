pub mod Streams
pub mod Joins
