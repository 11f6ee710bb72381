pub use Rattle.shard_files.proofs.m3_model_proofs.Ascending
pub use Rattle.shard_files.proofs.m3_model_proofs.FindLemmas
pub use Rattle.shard_files.proofs.m3_model_proofs.Lists
pub use Rattle.shard_files.proofs.m3_model_proofs.MemberLemmas
