pub use Rattle.node_calls.specs.replica_exchange.declared
