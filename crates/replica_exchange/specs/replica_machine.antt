pub use Rattle.replica_machine.specs.Bases
pub use Rattle.replica_machine.specs.Boots
pub use Rattle.replica_machine.specs.Damages
pub use Rattle.replica_machine.specs.Machines
pub use Rattle.replica_machine.specs.Openings
pub use Rattle.replica_machine.specs.Steps
pub use Rattle.replica_machine.specs.declared
