pub mod Merges
pub mod Parts
pub mod Pairs
pub mod Runs
pub mod Laws
