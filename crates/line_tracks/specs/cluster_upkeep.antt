pub use Rattle.cluster_upkeep.specs.Upkeep
