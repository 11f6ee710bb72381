use Rattle.std.proofs.Common.{subst, sym}
use Rattle.net_plan.specs.Fates.{IsSortedRow}
use Rattle.net_plan.proofs.RowLemmas.{empty_is_sorted}
use Rattle.net_plan.proofs.fates.Fates.empty.Goals as goal

pub invariant_of-result : goal.invariant_of-result
invariant_of-result c = subst IsSortedRow (sym c.new.ensures.items) empty_is_sorted
