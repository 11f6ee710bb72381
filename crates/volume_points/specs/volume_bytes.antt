pub use Rattle.fileset_check.specs.volume_bytes.Heads
pub use Rattle.fileset_check.specs.volume_bytes.declared
