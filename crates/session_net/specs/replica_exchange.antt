pub use Rattle.replica_calls.specs.replica_exchange.Damages
pub use Rattle.replica_calls.specs.replica_exchange.Exchanges
pub use Rattle.replica_calls.specs.replica_exchange.MachineCalls
pub use Rattle.replica_calls.specs.replica_exchange.Promises
pub use Rattle.replica_calls.specs.replica_exchange.Steps
pub use Rattle.replica_calls.specs.replica_exchange.declared
