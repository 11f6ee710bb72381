pub use Rattle.replica_calls.proofs.event_trail_proofs.Balances
