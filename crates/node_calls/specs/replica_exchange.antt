pub use Rattle.cluster_members.specs.replica_exchange.Exchanges
pub use Rattle.cluster_members.specs.replica_exchange.MachineCalls
pub use Rattle.cluster_members.specs.replica_exchange.Promises
pub use Rattle.cluster_members.specs.replica_exchange.declared
