pub use Rattle.placement_core.specs.Lawful
pub use Rattle.placement_core.specs.NodeNames
pub use Rattle.placement_core.specs.Shards
