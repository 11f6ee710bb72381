pub mod Nodes
pub mod Choices
pub mod Loads
pub mod Plans
pub mod First
pub mod Additions
pub mod Refusals
pub mod Laws
