pub mod Rows
pub mod Fates
pub mod Placements
pub mod Upkeep
pub mod NotYet
pub mod Requests
pub mod Laws
