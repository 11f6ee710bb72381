pub use Rattle.placement_core.proofs.ListLemmas
pub use Rattle.placement_core.proofs.OrderLemmas
