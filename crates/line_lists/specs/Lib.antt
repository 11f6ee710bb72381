pub mod Lists
pub mod Nodes
pub mod Matchers
pub mod Fates
