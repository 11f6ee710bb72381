use Rattle.std.proofs.Common.{◌≡◌, ◌+◌, ◌+ℤ◌, ℕ, drop}
use Rattle.load_gen.specs.Summaries.{sum_of}
use Rattle.load_gen.specs.Sums.{IsSumOfFew}
use Rattle.load_gen.proofs.summary.sum_on.Given as goal

abbrev pub invariant-loop-point : goal.invariant-loop-point
invariant-loop-point l = record {
  sum : l.sum +ℤ sum_of (drop l.point-index l.points) ≡ l.fn.before +ℤ sum_of l.points;
  few : (count : ℕ) → IsSumOfFew count l.fn.before → IsSumOfFew (count + l.point-index) l.sum;
}
