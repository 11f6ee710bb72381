pub use Rattle.commit_log.specs.m3_model.Ascends
pub use Rattle.commit_log.specs.m3_model.Contents
pub use Rattle.commit_log.specs.m3_model.Keys
pub use Rattle.commit_log.specs.m3_model.Members
pub use Rattle.commit_log.specs.m3_model.Tags
pub use Rattle.commit_log.specs.m3_model.declared
