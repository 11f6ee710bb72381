pub use Rattle.session_writes.specs.replica_exchange.Exchanges
pub use Rattle.session_writes.specs.replica_exchange.MachineCalls
pub use Rattle.session_writes.specs.replica_exchange.Promises
pub use Rattle.session_writes.specs.replica_exchange.declared
