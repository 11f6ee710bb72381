pub use Rattle.replica_calls.specs.event_trail.Trails
