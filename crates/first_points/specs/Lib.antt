pub mod Bounds
pub mod Firsts
pub mod Merges
pub mod Rows
