pub use Rattle.wire_bytes.proofs.m3_model_proofs.Ascending
pub use Rattle.wire_bytes.proofs.m3_model_proofs.FindLemmas
pub use Rattle.wire_bytes.proofs.m3_model_proofs.JoinLemmas
pub use Rattle.wire_bytes.proofs.m3_model_proofs.Keyed
pub use Rattle.wire_bytes.proofs.m3_model_proofs.Lists
pub use Rattle.wire_bytes.proofs.m3_model_proofs.MemberLemmas
