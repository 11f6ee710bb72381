use Rattle.std.proofs.Common.{◌↔◌, length}
use Rattle.net_plan.specs.Fates.{IsFatesRow}
use Rattle.net_plan.proofs.fates.is_fates_row.Given as goal

abbrev pub invariant-loop-item : goal.invariant-loop-item
invariant-loop-item l = IsFatesRow l.rest ↔ IsFatesRow l.list

abbrev pub decreases-loop-item : goal.decreases-loop-item
decreases-loop-item l = length l.rest
