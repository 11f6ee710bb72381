pub use Rattle.cluster_members.specs.session_net.Calls
pub use Rattle.cluster_members.specs.session_net.Deliveries
pub use Rattle.cluster_members.specs.session_net.Messages
pub use Rattle.cluster_members.specs.session_net.Reads
pub use Rattle.cluster_members.specs.session_net.Ready
pub use Rattle.cluster_members.specs.session_net.Runs
pub use Rattle.cluster_members.specs.session_net.Writes
pub use Rattle.cluster_members.specs.session_net.declared
