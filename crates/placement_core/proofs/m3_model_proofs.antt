pub use Rattle.m3_model.proofs.Ascending
pub use Rattle.m3_model.proofs.Lists
pub use Rattle.m3_model.proofs.MemberLemmas
