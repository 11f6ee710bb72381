pub use Rattle.replica_exchange.specs.placement_core.Lawful
pub use Rattle.replica_exchange.specs.placement_core.NodeNames
pub use Rattle.replica_exchange.specs.placement_core.Shards
