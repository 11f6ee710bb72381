pub use Rattle.fileset_read.specs.volume_bytes.Heads
pub use Rattle.fileset_read.specs.volume_bytes.declared
