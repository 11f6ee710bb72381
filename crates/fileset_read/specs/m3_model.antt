pub use Rattle.shard_files.specs.m3_model.Ascends
pub use Rattle.shard_files.specs.m3_model.Contents
pub use Rattle.shard_files.specs.m3_model.Keys
pub use Rattle.shard_files.specs.m3_model.Members
pub use Rattle.shard_files.specs.m3_model.Tags
pub use Rattle.shard_files.specs.m3_model.declared
