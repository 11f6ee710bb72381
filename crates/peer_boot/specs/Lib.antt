pub mod Claims
pub mod Merges
pub mod Tries
pub mod Pages
pub mod Asks
