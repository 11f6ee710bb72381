pub use Rattle.replica_exchange.specs.m3_outside.DiskState
pub use Rattle.replica_exchange.specs.m3_outside.declared
