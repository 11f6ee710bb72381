pub use Rattle.told_moves.specs.Order
