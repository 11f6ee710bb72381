pub use Rattle.cluster_members.specs.replica_calls.Calls
pub use Rattle.cluster_members.specs.replica_calls.Slots
