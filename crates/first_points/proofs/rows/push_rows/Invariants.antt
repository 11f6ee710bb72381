use Rattle.std.proofs.Common.{◌≡◌, ◌++◌, List, take}
use Rattle.std.specs.Option.{option_copied}
use Rattle.m3_model.specs.Reads.{points_in}
use Rattle.m3_model.specs.declared.point.Point.{Point}
use Rattle.first_points.specs.Bounds.{points_up_to}
use Rattle.first_points.proofs.rows.push_rows.Given as goal

abbrev pub invariant-loop-row : goal.invariant-loop-row
invariant-loop-row l = (points : List Point) → l.fn.first.items ≡ take l.limit points → l.first.items ≡ take l.limit (points ++ points_up_to (option_copied l.last) (points_in l.ns (take l.row-index l.rows)))
