pub mod OnceLemmas
pub mod ToldLemmas
pub mod OpenLemmas
pub mod ClaimLemmas
