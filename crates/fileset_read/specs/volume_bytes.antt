pub use Rattle.volume_bytes.specs.Heads
pub use Rattle.volume_bytes.specs.Tables
pub use Rattle.volume_bytes.specs.declared
