pub use Rattle.event_trail.specs.Trails
