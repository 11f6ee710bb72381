pub use Rattle.cluster_core.specs.contracts.event.Event
