pub use Rattle.node_calls.proofs.cluster_members_proofs.NameLemmas
pub use Rattle.node_calls.proofs.cluster_members_proofs.PlanLemmas
