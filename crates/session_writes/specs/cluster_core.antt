pub use Rattle.session_net.specs.cluster_core.Asks
pub use Rattle.session_net.specs.cluster_core.Earlier
pub use Rattle.session_net.specs.cluster_core.Legal
pub use Rattle.session_net.specs.cluster_core.Lists
pub use Rattle.session_net.specs.cluster_core.Replicas
pub use Rattle.session_net.specs.cluster_core.declared
