use Rattle.std.proofs.Common.{◌≡◌, ◌+◌, ◌+ℤ◌, drop, length}
use Rattle.load_gen.specs.Summaries.{all_points, sum_of}
use Rattle.load_gen.specs.Sums.{IsSumOfFew}
use Rattle.load_gen.proofs.summary.tally_of.Given as goal

abbrev pub invariant-loop-one : goal.invariant-loop-one
invariant-loop-one l = record {
  count : l.points + length (all_points (drop l.one-index l.series)) ≡ length (all_points l.series);
  few : IsSumOfFew l.points l.sum;
  total : l.sum +ℤ sum_of (all_points (drop l.one-index l.series)) ≡ sum_of (all_points l.series);
}
