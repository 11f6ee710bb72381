use Rattle.std.proofs.Common.{◌≡◌, ◌-◌, ◌^◌, ◌≤◌}
use Rattle.std.specs.Prelude.{min}
use Rattle.std.specs.FinMap as finite
use Rattle.block_buffer.specs.Held.{without, has_expired}
use Rattle.block_buffer.proofs.buffer.Buffer.expire.Given as goal

abbrev pub invariant-loop-taken : goal.invariant-loop-taken
invariant-loop-taken l = record {
  kept : without l.self.points (has_expired l.rules) ≡ without l.initial.self.points (has_expired l.rules);
  fewer : finite.len l.self.points ≤ finite.len l.initial.self.points;
  counted : l.count ≡ min (finite.len l.initial.self.points - finite.len l.self.points) (2 ^ 64 - 1);
}

abbrev pub decreases-loop-taken : goal.decreases-loop-taken
decreases-loop-taken l = finite.len l.self.points
