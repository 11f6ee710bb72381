pub use Rattle.replica_exchange.specs.event_trail.Trails
