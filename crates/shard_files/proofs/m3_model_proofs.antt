pub use Rattle.commit_log.proofs.m3_model_proofs.Ascending
pub use Rattle.commit_log.proofs.m3_model_proofs.FindLemmas
pub use Rattle.commit_log.proofs.m3_model_proofs.Lists
pub use Rattle.commit_log.proofs.m3_model_proofs.MemberLemmas
