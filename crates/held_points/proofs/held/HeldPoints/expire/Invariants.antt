use Rattle.std.proofs.Common.{◌≡◌, ◌≤◌, None}
use Rattle.std.specs.FinMap as finite
use Rattle.block_buffer.specs.Held.{without, has_expired}
use Rattle.held_points.proofs.held.HeldPoints.expire.Given as goal

abbrev pub invariant-loop : goal.invariant-loop
invariant-loop l = record {
  before : l.before ≡ finite.len l.fn.self.points;
  room : l.self.room ≡ None;
  kept : without l.self.points (has_expired l.rules) ≡ without l.fn.self.points (has_expired l.rules);
  fewer : finite.len l.self.points ≤ finite.len l.fn.self.points;
}

abbrev pub decreases-loop : goal.decreases-loop
decreases-loop l = finite.len l.self.points
