pub mod Order
pub mod Moves
