pub mod Saved
pub mod Counts
pub mod volume_steps
