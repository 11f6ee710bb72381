pub use Rattle.log_chunks.specs.m3_model.Answers
pub use Rattle.log_chunks.specs.m3_model.Ascends
pub use Rattle.log_chunks.specs.m3_model.Contents
pub use Rattle.log_chunks.specs.m3_model.Keys
pub use Rattle.log_chunks.specs.m3_model.Members
pub use Rattle.log_chunks.specs.m3_model.Reads
pub use Rattle.log_chunks.specs.m3_model.Tags
pub use Rattle.log_chunks.specs.m3_model.declared
