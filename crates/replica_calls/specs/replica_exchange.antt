pub use Rattle.replica_exchange.specs.Damages
pub use Rattle.replica_exchange.specs.Exchanges
pub use Rattle.replica_exchange.specs.MachineCalls
pub use Rattle.replica_exchange.specs.Promises
pub use Rattle.replica_exchange.specs.Steps
pub use Rattle.replica_exchange.specs.declared
