use Rattle.std.proofs.Common.{rules, sym, subst, pos, FitsSigned}
use Rattle.std.specs.Int.{w128}
use Rattle.std.proofs.lemmas.Int.{to_z-of_z}
use Rattle.load_gen.specs.Sums.{IsSumOfFew}
use Rattle.load_gen.proofs.SummaryLemmas.{few_fit, few_more, sum_more}
use Rattle.load_gen.proofs.summary.sum_on.Goals as goal

pub loop-point-preserved : goal.loop-point-preserved
loop-point-preserved c =
    let fits : FitsSigned w128 c.value_of.result = search rules in
    record {
      sum = sum_more c.args.points.now c.loop-point.point-index (0, pos 0) _ c.value_of.result c.in_ok-sum.sum _ c.loop-point-test.true c.loop-point.invariant.sum c.value_of.ensures.value fits c.in_ok-sum.ensures;
      few = λ count was. few_more count c.loop-point.point-index _ c.value_of.result c.in_ok-sum.sum (c.loop-point.invariant.few count was) c.value_of.ensures.fits fits c.in_ok-sum.ensures;
    }

pub returns-in_err-sum-clause-some : goal.returns-in_err-sum-clause-some
returns-in_err-sum-clause-some c = λ count was few.
    let fits : FitsSigned w128 c.value_of.result = search rules in
    let begun = subst (IsSumOfFew count) (sym (to_z-of_z w128 c.args.before c.ranges.before)) was in
    absurd (c.in_err-sum.ensures (few_fit count c.loop-point.point-index _ _ c.value_of.result (c.loop-point.invariant.few count begun) c.value_of.ensures.fits fits c.loop-point-test.true few))
