use Rattle.std.proofs.Common.{rules, ◌+◌, length, sym, subst, to_z, of_z, FitsSigned, ◌∙◌, arith}
use Rattle.std.specs.Int.{w128}
use Rattle.std.proofs.lemmas.Int.{to_z-of_z}
use Rattle.load_gen.specs.Sums.{IsSumOfFew}
use Rattle.load_gen.proofs.SummaryLemmas.{count_more, own_below, total_more}
use Rattle.load_gen.proofs.summary.tally_of.Goals as goal

pub loop-one-preserved : goal.loop-one-preserved
loop-one-preserved c =
    let fits : FitsSigned w128 c.in_ok-sum.sum = search rules in
    record {
      count = count_more c.args.series.now c.loop-one.one-index c.one-item.result c.loop-one.points c.in_ok-points.points c.as_slice-own.result.now _ c.loop-one-test.true c.one-item.is c.as_slice-own.ensures c.loop-one.invariant.count c.in_ok-points.ensures.1;
      few = subst (λ n. IsSumOfFew n (to_z w128 (of_z w128 c.in_ok-sum.sum))) (sym c.in_ok-points.ensures.1)
          (subst (IsSumOfFew (c.loop-one.points + length c.as_slice-own.result.now)) (sym (to_z-of_z w128 c.in_ok-sum.sum fits)) (c.in_ok-sum.ensures.few c.loop-one.points c.loop-one.invariant.few));
      total = total_more c.args.series.now c.loop-one.one-index c.one-item.result _ _ c.as_slice-own.result.now _ c.loop-one-test.true c.one-item.is c.as_slice-own.ensures c.loop-one.invariant.total (to_z-of_z w128 c.in_ok-sum.sum fits ∙ c.in_ok-sum.ensures.sum);
    }

pub returns-in_err-points-clause-some : goal.returns-in_err-points-clause-some
returns-in_err-points-clause-some c = λ few.
    let below = own_below c.args.series.now c.loop-one.one-index c.one-item.result c.loop-one.points c.as_slice-own.result.now _ c.loop-one-test.true c.one-item.is c.as_slice-own.ensures c.loop-one.invariant.count in
    absurd (c.in_err-points.ensures (omega (arith, few, below)))

pub returns-in_err-sum-clause-some : goal.returns-in_err-sum-clause-some
returns-in_err-sum-clause-some c = λ few.
    let below = own_below c.args.series.now c.loop-one.one-index c.one-item.result c.loop-one.points c.as_slice-own.result.now _ c.loop-one-test.true c.one-item.is c.as_slice-own.ensures c.loop-one.invariant.count in
    let bad = c.in_err-sum.ensures.some c.loop-one.points c.loop-one.invariant.few (omega (arith, few, below)) in
    cc
