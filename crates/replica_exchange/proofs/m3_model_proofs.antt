pub use Rattle.replica_machine.proofs.m3_model_proofs.Keyed
pub use Rattle.replica_machine.proofs.m3_model_proofs.RaiseLemmas
