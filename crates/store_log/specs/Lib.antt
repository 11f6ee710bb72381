pub mod Kept
pub mod Whole
pub mod first_points
pub mod held_pages
pub mod joined_reads
pub mod listed_volumes
pub mod snapshot_steps
