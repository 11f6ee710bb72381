use Rattle.std.proofs.Common.{◌≡◌, ◌++◌, map, take}
use Rattle.wire_bytes.specs.Entries.{points_bytes}
use Rattle.wire_bytes.proofs.entries.push_points.Given as goal

abbrev pub invariant-loop-point : goal.invariant-loop-point
invariant-loop-point l = l.out.items ≡ l.initial.out.items ++ points_bytes (map (λ p. p.now) (take l.point-index l.points))
