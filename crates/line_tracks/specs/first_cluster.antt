pub use Rattle.first_cluster.specs.Bare
pub use Rattle.first_cluster.specs.Depots
pub use Rattle.first_cluster.specs.First
pub use Rattle.first_cluster.specs.Lending
pub use Rattle.first_cluster.specs.Slots
