pub use Rattle.cluster_core.specs.Earlier
pub use Rattle.cluster_core.specs.Legal
pub use Rattle.cluster_core.specs.Lists
pub use Rattle.cluster_core.specs.Replicas
pub use Rattle.cluster_core.specs.declared
