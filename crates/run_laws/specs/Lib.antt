pub mod Samples
pub mod States
pub mod Faults
