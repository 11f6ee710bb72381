pub use Rattle.session_net.proofs.event_trail_proofs.Balances
