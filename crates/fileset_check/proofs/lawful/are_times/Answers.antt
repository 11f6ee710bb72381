use Rattle.std.proofs.Common.{get_or, refl, arith, rules, pos, w64, FitsSigned}
use Rattle.fileset_check.proofs.LawfulLemmas.{time_more, time_low, time_high, times_end}
use Rattle.fileset_check.proofs.lawful.are_times.Goals as goal
use Rattle.fileset_check.proofs.lawful.are_times.Goals.{then-t-least-via-then-t-least, then-t-least-via-else-t-least+then-end-t}

pub loop-pair-init : goal.loop-pair-init
loop-pair-init c = (λ a. a, λ a. a)

pub loop-pair-preserved : goal.loop-pair-preserved
loop-pair-preserved c =
    let value : FitsSigned w64 (get_or c.args.pairs.now c.loop-pair.pair-index (0, pos 0)).1 = search rules in
    time_more c.args.pairs.now c.loop-pair.pair-index (0, pos 0) c.loop-pair-test.true c.loop-pair.least c.args.end c.loop-pair.invariant c.if-t-least.false c.if-end-t.false value

pub returns-then-t-least : goal.returns-then-t-least
returns-then-t-least c = (
  λ f. absurd (cc),
  λ all.
      let low = time_low c.args.pairs.now c.loop-pair.pair-index (0, pos 0) c.loop-pair-test.true c.loop-pair.least c.args.end c.loop-pair.invariant all in
      let high = time_high c.args.pairs.now c.loop-pair.pair-index (0, pos 0) c.loop-pair-test.true c.loop-pair.least c.args.end c.loop-pair.invariant all in
      elim c.then-t-least.branch [
        | then-t-least-via-then-t-least w ↦ absurd (let t = w.if-t-least.true in omega (arith, t, low))
        | then-t-least-via-else-t-least+then-end-t w ↦ absurd (let t = w.if-end-t.true in omega (arith, t, high))
      ],
)

pub returns : goal.returns
returns c = (λ is. times_end c.args.pairs.now c.loop-pair.pair-index c.loop-pair.least c.args.end c.loop-pair-test.false c.loop-pair.invariant, λ a. refl)
