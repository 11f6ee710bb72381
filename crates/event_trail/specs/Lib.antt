pub mod Views
pub mod Pasts
pub mod Trails
