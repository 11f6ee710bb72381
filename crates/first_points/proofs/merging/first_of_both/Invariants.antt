use Rattle.std.proofs.Common.{◌+◌, length}
use Rattle.std.specs.Prelude.{Option}
use Rattle.m3_model.specs.Contents.{Contents}
use Rattle.m3_model.specs.declared.point.Key.{Key}
use Rattle.first_points.specs.Firsts.{AreFirst}
use Rattle.first_points.specs.Merges.{IsJoinOf, IsPartOfFirsts}
use Rattle.first_points.proofs.merging.first_of_both.Given as goal

abbrev pub invariant-steps : goal.invariant-steps
invariant-steps l =
    (c d both : Contents) (after : Option Key) → IsJoinOf c d both → AreFirst c after l.fn.limit l.fn.one → AreFirst d after l.fn.limit l.fn.other → IsPartOfFirsts c d both after l.fn.limit l.merging.done.items l.merging.one.items l.merging.other.items

abbrev pub decreases-steps : goal.decreases-steps
decreases-steps l = length l.merging.one.items + length l.merging.other.items
