pub mod Meanings
pub mod PutOff
pub mod Served
