pub use Rattle.cluster_members.specs.Calls
pub use Rattle.cluster_members.specs.Kept
pub use Rattle.cluster_members.specs.Names
pub use Rattle.cluster_members.specs.Steps
pub use Rattle.cluster_members.specs.declared
