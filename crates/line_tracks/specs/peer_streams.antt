pub use Rattle.peer_streams.specs.Joins
