pub use Rattle.event_trail.proofs.Balances
