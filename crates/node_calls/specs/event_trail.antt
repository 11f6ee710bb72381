pub use Rattle.cluster_members.specs.event_trail.Trails
