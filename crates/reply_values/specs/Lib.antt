pub mod Json
pub mod Order
pub mod Words
pub mod Digests
pub mod Refusals
