pub use Rattle.session_net.specs.event_trail.Trails
