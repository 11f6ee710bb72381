pub use Rattle.m3_model.proofs.Keyed
pub use Rattle.m3_model.proofs.RaiseLemmas
