pub use Rattle.log_chunks.specs.m3_outside.Causes
pub use Rattle.log_chunks.specs.m3_outside.DiskCalls
pub use Rattle.log_chunks.specs.m3_outside.DiskState
pub use Rattle.log_chunks.specs.m3_outside.Files
pub use Rattle.log_chunks.specs.m3_outside.Removal
pub use Rattle.log_chunks.specs.m3_outside.declared
