pub use Rattle.session_writes.specs.cluster_core.Earlier
pub use Rattle.session_writes.specs.cluster_core.Lists
pub use Rattle.session_writes.specs.cluster_core.Replicas
pub use Rattle.session_writes.specs.cluster_core.declared
