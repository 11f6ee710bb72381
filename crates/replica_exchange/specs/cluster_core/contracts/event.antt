pub use Rattle.replica_machine.specs.cluster_core.contracts.event.Event
