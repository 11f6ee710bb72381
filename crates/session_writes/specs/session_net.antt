pub use Rattle.session_net.specs.Calls
pub use Rattle.session_net.specs.Deliveries
pub use Rattle.session_net.specs.Messages
pub use Rattle.session_net.specs.Reads
pub use Rattle.session_net.specs.Ready
pub use Rattle.session_net.specs.Runs
pub use Rattle.session_net.specs.Writes
pub use Rattle.session_net.specs.declared
