pub mod Left
pub mod Laws
pub mod ReadLaws
pub mod Keeps
pub mod Sample
