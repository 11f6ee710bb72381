pub use Rattle.cluster_joins.specs.Boots
pub use Rattle.cluster_joins.specs.Marks
pub use Rattle.cluster_joins.specs.declared
