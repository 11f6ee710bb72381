pub use Rattle.session_writes.specs.event_trail.Trails
