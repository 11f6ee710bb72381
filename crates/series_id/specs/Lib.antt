pub mod Names
pub mod Faults
pub mod Positions
pub mod Given
