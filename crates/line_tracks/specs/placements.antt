pub mod Serves
pub mod Stands
