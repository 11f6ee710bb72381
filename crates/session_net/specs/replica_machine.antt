pub use Rattle.replica_calls.specs.replica_machine.Bases
pub use Rattle.replica_calls.specs.replica_machine.Boots
pub use Rattle.replica_calls.specs.replica_machine.Damages
pub use Rattle.replica_calls.specs.replica_machine.Machines
pub use Rattle.replica_calls.specs.replica_machine.Openings
pub use Rattle.replica_calls.specs.replica_machine.Steps
pub use Rattle.replica_calls.specs.replica_machine.declared
