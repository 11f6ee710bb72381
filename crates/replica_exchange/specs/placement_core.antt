pub use Rattle.replica_machine.specs.placement_core.Lawful
pub use Rattle.replica_machine.specs.placement_core.NodeNames
pub use Rattle.replica_machine.specs.placement_core.Shards
