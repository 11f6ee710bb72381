use Rattle.std.proofs.Common.{◌≡◌, ℕ, ◌-◌, ◌^◌, ◌<◌, ◌≤◌}
use Rattle.block_buffer.specs.Spots.{group_of, IsKeyWithin, IsClear}
use Rattle.block_buffer.proofs.all_series.AllSeries.within_from.Given as goal

abbrev pub invariant-loop-group : goal.invariant-loop-group
invariant-loop-group l = record {
  same : l.self ≡ l.initial.self;
  clear : (position : ℕ) → l.from ≤ group_of position → group_of position < l.next → IsClear l.self position (IsKeyWithin l.ns l.low l.high);
}

abbrev pub decreases-loop-group : goal.decreases-loop-group
decreases-loop-group l = 2 ^ 64 - l.next
