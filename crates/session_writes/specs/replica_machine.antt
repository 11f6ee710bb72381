pub use Rattle.session_net.specs.replica_machine.Bases
pub use Rattle.session_net.specs.replica_machine.Boots
pub use Rattle.session_net.specs.replica_machine.Damages
pub use Rattle.session_net.specs.replica_machine.Machines
pub use Rattle.session_net.specs.replica_machine.Openings
pub use Rattle.session_net.specs.replica_machine.Steps
pub use Rattle.session_net.specs.replica_machine.declared
