pub mod Names
pub mod Series
pub mod Reasons
pub mod Placements
pub mod Outcomes
pub mod Repairs
pub mod Statuses
