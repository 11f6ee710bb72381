pub mod Ranks
pub mod Told
pub mod Loads
pub mod Claims
