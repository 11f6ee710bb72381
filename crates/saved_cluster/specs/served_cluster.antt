pub use Rattle.served_cluster.specs.Acts
pub use Rattle.served_cluster.specs.Ends
pub use Rattle.served_cluster.specs.Owned
pub use Rattle.served_cluster.specs.Plans
pub use Rattle.served_cluster.specs.Tracks
pub use Rattle.served_cluster.specs.declared
