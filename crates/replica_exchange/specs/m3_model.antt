pub use Rattle.replica_machine.specs.m3_model.Reads
pub use Rattle.replica_machine.specs.m3_model.declared
