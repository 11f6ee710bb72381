pub use Rattle.shard_files.specs.m3_outside.Causes
pub use Rattle.shard_files.specs.m3_outside.DiskCalls
pub use Rattle.shard_files.specs.m3_outside.DiskState
pub use Rattle.shard_files.specs.m3_outside.Files
pub use Rattle.shard_files.specs.m3_outside.Removal
pub use Rattle.shard_files.specs.m3_outside.declared
