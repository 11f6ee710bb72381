pub use Rattle.replica_calls.specs.m3_outside.DiskState
pub use Rattle.replica_calls.specs.m3_outside.declared
