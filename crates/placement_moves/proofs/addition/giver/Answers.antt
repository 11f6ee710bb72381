use Rattle.std.proofs.Common.{◌<◌, ◌+◌, ℕ, subst, sym, arith, length, slice_index}
use Rattle.placement_core.proofs.StepLemmas.{no_true}
use Rattle.placement_plan.specs.Additions.{MayGiveShard, giving_cmp}
use Rattle.placement_plan.proofs.ChoiceLemmas.{BestBelow, best_within, best_none, best_takes, best_skip}
use Rattle.placement_plan.proofs.AddLemmas.{giving_total, giver_found}
use Rattle.placement_moves.proofs.addition.giver.Goals as goal
use Rattle.placement_moves.proofs.addition.giver.Goals.{then-may_give, else-may_give}

pub heavier-requires : goal.heavier-requires
heavier-requires c = record {
  node_in = omega (arith, c.requires.loads, c.loop-number-test.true);
  best_in = best_within (giving_cmp c.args.instances.now (slice_index c.args.loads.now)) (MayGiveShard (slice_index c.args.loads.now) c.args.instances.now c.args.shards.now c.args.to) c.loop-number.number (length c.args.loads.now) c.loop-number.best
      (omega (arith, c.requires.loads, c.loop-number-test.true)) c.loop-number.invariant;
}

pub loop-number-preserved : goal.loop-number-preserved
loop-number-preserved c =
    let table = slice_index c.args.loads.now in
    let cmp = giving_cmp c.args.instances.now table in
    let May = MayGiveShard table c.args.instances.now c.args.shards.now c.args.to in
    let n = c.loop-number.number in
    elim c.if-may_give.branch [
      | then-may_give w ↦ subst (BestBelow cmp May (n + 1)) (sym w.best-is)
          (best_takes cmp (giving_total c.args.instances.now table) May n w.heavier.result c.loop-number.best w.heavier.ensures.alone w.heavier.ensures.before (c.may_give.ensures.0 w.if-may_give.true) c.loop-number.invariant)
      | else-may_give w ↦ subst (BestBelow cmp May (n + 1)) (sym w.best-is) (best_skip cmp May n c.loop-number.best (λ may. no_true c.may_give.result w.if-may_give.false (c.may_give.ensures.1 may)) c.loop-number.invariant)
    ]

pub returns : goal.returns
returns c =
    let table = slice_index c.args.loads.now in
    let May = MayGiveShard table c.args.instances.now c.args.shards.now c.args.to in
    let within : (m : ℕ) → May m → m < c.loop-number.number = λ m may. omega (arith, may.within, c.loop-number-test.false) in
    record {
      found = giver_found table c.args.instances.now c.args.shards.now c.args.to c.loop-number.number c.loop-number.best (omega (arith, c.loop-number-test.false)) c.loop-number.invariant;
      none = best_none (giving_cmp c.args.instances.now table) May c.loop-number.number c.loop-number.best within c.loop-number.invariant;
    }
