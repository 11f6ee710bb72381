pub mod Building
pub mod Accepted
pub mod Refused
pub mod Uncaused
pub mod General
pub mod Messages
pub mod Shapes
