use Rattle.std.proofs.Common.{◌<◌, drop, length}
use Rattle.std.specs.Prelude.{◌⊎◌}
use Rattle.m3_model.specs.Members.{IsIn}
use Rattle.m3_model.specs.declared.point.Series.{Series}
use Rattle.fileset_tests.proofs.joins.are_filled.Given as goal

-- the series so far have points
abbrev pub invariant-loop-row : goal.invariant-loop-row
invariant-loop-row l = (s : Series) → IsIn l.rows s → IsIn (drop l.row-index l.rows) s ⊎ (0 < length s.points)
