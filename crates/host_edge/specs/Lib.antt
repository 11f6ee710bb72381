pub mod Silent
pub mod Slots
pub mod Streams
