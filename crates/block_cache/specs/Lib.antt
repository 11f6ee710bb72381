pub mod Blocks
pub mod Uses
pub mod Laws
