use Rattle.std.proofs.Common.{◌<◌, ◌+◌, ℕ, subst, sym, arith, length, slice_index}
use Rattle.std.proofs.lemmas.Option.{slice_get_within}
use Rattle.placement_core.proofs.StepLemmas.{no_true}
use Rattle.placement_plan.specs.Choices.{MayTake, taking_cmp}
use Rattle.placement_plan.proofs.ChoiceLemmas.{BestBelow, best_within, best_found, best_none, best_takes, best_skip, taking_total}
use Rattle.placement_plan.proofs.choice.taker.Goals as goal
use Rattle.placement_plan.proofs.choice.taker.Goals.{then-may_take, else-may_take}

pub better-requires : goal.better-requires
better-requires c = record {
  node_in = omega (arith, c.requires.loads, c.loop-number-test.true);
  best_in = best_within (taking_cmp c.args.instances.now (slice_index c.args.loads.now)) (MayTake c.args.instances.now c.args.shard.now c.args.from) c.loop-number.number (length c.args.loads.now) c.loop-number.best
      (omega (arith, c.requires.loads, c.loop-number-test.true)) c.loop-number.invariant;
}

pub loop-number-preserved : goal.loop-number-preserved
loop-number-preserved c =
    let cmp = taking_cmp c.args.instances.now (slice_index c.args.loads.now) in
    let May = MayTake c.args.instances.now c.args.shard.now c.args.from in
    let n = c.loop-number.number in
    elim c.if-may_take.branch [
      | then-may_take w ↦ subst (BestBelow cmp May (n + 1)) (sym w.best-is)
          (best_takes cmp (taking_total c.args.instances.now (slice_index c.args.loads.now)) May n w.better.result c.loop-number.best w.better.ensures.alone w.better.ensures.before (c.may_take.ensures.0 w.if-may_take.true) c.loop-number.invariant)
      | else-may_take w ↦ subst (BestBelow cmp May (n + 1)) (sym w.best-is) (best_skip cmp May n c.loop-number.best (λ may. no_true c.may_take.result w.if-may_take.false (c.may_take.ensures.1 may)) c.loop-number.invariant)
    ]

pub returns : goal.returns
returns c =
    let instances = c.args.instances.now in
    let May = MayTake instances c.args.shard.now c.args.from in
    let within : (m : ℕ) → May m → m < c.loop-number.number = λ m may. omega (arith, slice_get_within instances m may.instance may.stands, c.loop-number-test.false) in
    record {
      found = best_found instances (slice_index c.args.loads.now) May c.loop-number.number c.loop-number.best within c.loop-number.invariant;
      none = best_none (taking_cmp instances (slice_index c.args.loads.now)) May c.loop-number.number c.loop-number.best within c.loop-number.invariant;
    }
