pub use Rattle.session_writes.specs.session_net.Calls
pub use Rattle.session_writes.specs.session_net.Deliveries
pub use Rattle.session_writes.specs.session_net.Messages
pub use Rattle.session_writes.specs.session_net.Reads
pub use Rattle.session_writes.specs.session_net.Ready
pub use Rattle.session_writes.specs.session_net.Runs
pub use Rattle.session_writes.specs.session_net.Writes
pub use Rattle.session_writes.specs.session_net.declared
