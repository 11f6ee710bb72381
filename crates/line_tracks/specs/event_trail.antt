pub use Rattle.node_calls.specs.event_trail.Trails
