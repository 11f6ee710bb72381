pub use Rattle.cluster_placements.specs.Lending
pub use Rattle.cluster_placements.specs.Slots
pub use Rattle.cluster_placements.specs.Steps
pub use Rattle.cluster_placements.specs.declared
