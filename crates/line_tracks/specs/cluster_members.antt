pub use Rattle.node_calls.specs.cluster_members.Calls
pub use Rattle.node_calls.specs.cluster_members.Kept
pub use Rattle.node_calls.specs.cluster_members.Names
pub use Rattle.node_calls.specs.cluster_members.Steps
pub use Rattle.node_calls.specs.cluster_members.declared
