pub use Rattle.replica_calls.specs.placement_core.NodeNames
pub use Rattle.replica_calls.specs.placement_core.Shards
