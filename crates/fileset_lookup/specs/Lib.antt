pub mod Bits
pub mod Extents
pub mod Runs
pub mod Spots
