pub use Rattle.replica_machine.specs.m3_outside.DiskState
pub use Rattle.replica_machine.specs.m3_outside.declared
