use Rattle.std.proofs.Common.{◌+◌, length}
use Rattle.series_merge.specs.Runs.{IsPartOfMerge}
use Rattle.series_merge.proofs.merging.merge_all.Given as goal

abbrev pub invariant-steps : goal.invariant-steps
invariant-steps l = IsPartOfMerge l.fn.one l.fn.other l.merging.done.items l.merging.one.items l.merging.other.items

abbrev pub decreases-steps : goal.decreases-steps
decreases-steps l = length l.merging.one.items + length l.merging.other.items
