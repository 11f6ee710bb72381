pub mod Listed
pub mod Links
pub mod Sound
pub mod Laws
