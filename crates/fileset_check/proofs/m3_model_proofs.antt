pub use Rattle.fileset_read.proofs.m3_model_proofs.Ascending
pub use Rattle.fileset_read.proofs.m3_model_proofs.FindLemmas
pub use Rattle.fileset_read.proofs.m3_model_proofs.Lists
pub use Rattle.fileset_read.proofs.m3_model_proofs.MemberLemmas
