pub mod Draws
pub mod Lines
pub mod Script
pub mod Left
pub mod Laws
pub mod Summaries
pub mod Sums
