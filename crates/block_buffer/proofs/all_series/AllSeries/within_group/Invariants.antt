use Rattle.std.proofs.Common.{ℕ, ◌<◌, ◌≤◌}
use Rattle.block_buffer.specs.Spots.{IsKeyWithin, HasNoneAt}
use Rattle.block_buffer.proofs.all_series.AllSeries.within_group.Given as goal

abbrev pub invariant-loop-position : goal.invariant-loop-position
invariant-loop-position l = (p : ℕ) → l.first ≤ p → p < l.position → HasNoneAt l.self p (IsKeyWithin l.ns l.low l.high)
