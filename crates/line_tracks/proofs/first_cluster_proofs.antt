pub use Rattle.first_cluster.proofs.FirstLemmas
pub use Rattle.first_cluster.proofs.GiveAll
pub use Rattle.first_cluster.proofs.ListLemmas
pub use Rattle.first_cluster.proofs.PlacedSlots
pub use Rattle.first_cluster.proofs.SlotCases
pub use Rattle.first_cluster.proofs.SlotLists
pub use Rattle.first_cluster.proofs.TakeAll
