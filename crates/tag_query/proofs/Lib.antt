pub mod Members
pub mod Sifting
