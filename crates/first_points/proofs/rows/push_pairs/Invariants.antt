use Rattle.std.proofs.Common.{◌≡◌, ◌++◌, List, take}
use Rattle.m3_model.specs.declared.point.Point.{Point}
use Rattle.first_points.specs.Rows.{points_at}
use Rattle.first_points.proofs.rows.push_pairs.Given as goal

abbrev pub invariant-loop-t : goal.invariant-loop-t
invariant-loop-t l = (points : List Point) → l.fn.first.items ≡ take l.limit points → l.first.items ≡ take l.limit (points ++ points_at l.ns l.id (take l.t-index l.within))
