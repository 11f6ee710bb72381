pub use Rattle.cluster_members.proofs.ClockLemmas
pub use Rattle.cluster_members.proofs.NameLemmas
pub use Rattle.cluster_members.proofs.PlanLemmas
pub use Rattle.cluster_members.proofs.SameMembers
