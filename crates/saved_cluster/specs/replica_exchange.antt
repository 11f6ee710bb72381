pub use Rattle.line_tracks.specs.replica_exchange.declared
