pub use Rattle.m3_model.proofs.Ascending
pub use Rattle.m3_model.proofs.FindLemmas
pub use Rattle.m3_model.proofs.JoinLemmas
pub use Rattle.m3_model.proofs.Keyed
pub use Rattle.m3_model.proofs.Lists
pub use Rattle.m3_model.proofs.MemberLemmas
