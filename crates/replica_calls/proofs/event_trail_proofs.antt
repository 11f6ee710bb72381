pub use Rattle.replica_exchange.proofs.event_trail_proofs.Balances
