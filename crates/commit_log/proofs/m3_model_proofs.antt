pub use Rattle.log_chunks.proofs.m3_model_proofs.Ascending
pub use Rattle.log_chunks.proofs.m3_model_proofs.FindLemmas
pub use Rattle.log_chunks.proofs.m3_model_proofs.JoinLemmas
pub use Rattle.log_chunks.proofs.m3_model_proofs.Keyed
pub use Rattle.log_chunks.proofs.m3_model_proofs.Lists
pub use Rattle.log_chunks.proofs.m3_model_proofs.MemberLemmas
