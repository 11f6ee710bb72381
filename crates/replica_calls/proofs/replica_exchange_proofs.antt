pub use Rattle.replica_exchange.proofs.ExchangeLemmas
