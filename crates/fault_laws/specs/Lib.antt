pub mod Faulty
pub mod Versions
pub mod Untold
pub mod Upkeep
pub mod Served
