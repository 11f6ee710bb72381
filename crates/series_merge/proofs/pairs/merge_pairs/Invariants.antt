use Rattle.std.proofs.Common.{◌≤◌, ◌+◌, ◌-◌, length, drop}
use Rattle.m3_model.specs.Ascends.{Ascends}
use Rattle.series_merge.specs.Pairs.{IsEarlier, IsPartOfPairs}
use Rattle.series_merge.proofs.pairs.merge_pairs.Given as goal

abbrev pub invariant-loop-first : goal.invariant-loop-first
invariant-loop-first l = record {
  in_one : l.i ≤ length l.one;
  in_other : l.j ≤ length l.other;
  part : Ascends IsEarlier l.one → Ascends IsEarlier l.other → IsPartOfPairs l.one l.other l.pairs.items (drop l.i l.one) (drop l.j l.other);
}

abbrev pub decreases-loop-first : goal.decreases-loop-first
decreases-loop-first l = (length l.one - l.i) + (length l.other - l.j)
