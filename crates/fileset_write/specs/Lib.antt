pub mod Putting
pub mod NewVolumes
