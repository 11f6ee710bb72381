pub mod Ranges
pub mod Seekers
pub mod Stretches
pub mod fileset_lookup
