use Rattle.std.proofs.Common.{◌≡◌, take}
use Rattle.legal_events.proofs.legal.with_points.Given as goal

abbrev pub invariant-loop-point : goal.invariant-loop-point
invariant-loop-point l = l.whole.items ≡ take l.point-index l.points
