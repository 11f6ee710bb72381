pub mod Decides
pub mod Balances
pub mod Untold
mod TrailLemmas
