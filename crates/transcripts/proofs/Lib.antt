pub mod PositionLemmas
pub mod MoreFaults
pub mod PlacementLemmas
pub mod RefusalLemmas
pub mod SweepLemmas
