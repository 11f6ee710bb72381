use Rattle.std.proofs.Common.{ℕ, ◌-◌, ◌<◌, ◌≤◌}
use Rattle.block_buffer.specs.Bounds.{bound_in}
use Rattle.block_buffer.proofs.bounds.next_in.Given as goal

abbrev pub invariant-loop-position : goal.invariant-loop-position
invariant-loop-position l = record {
  from : l.from ≤ l.position;
  above : (q : ℕ) → l.from ≤ q → q < l.position → l.high < bound_in l.nodes q;
}

abbrev pub decreases-loop-position : goal.decreases-loop-position
decreases-loop-position l = l.positions - l.position
