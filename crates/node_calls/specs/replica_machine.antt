pub use Rattle.cluster_members.specs.replica_machine.Boots
pub use Rattle.cluster_members.specs.replica_machine.Damages
pub use Rattle.cluster_members.specs.replica_machine.Machines
pub use Rattle.cluster_members.specs.replica_machine.Openings
pub use Rattle.cluster_members.specs.replica_machine.Steps
pub use Rattle.cluster_members.specs.replica_machine.declared
