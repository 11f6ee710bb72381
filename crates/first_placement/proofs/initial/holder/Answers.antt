use Rattle.std.proofs.Common.{◌≢◌, ◌<◌, ◌+◌, ℕ, subst, sym, arith, length, slice_index}
use Rattle.m3_model.specs.declared.placement.Assignment.{Assignment}
use Rattle.m3_model.proofs.Lists.{All-from_each}
use Rattle.placement_core.proofs.StepLemmas.{no_true}
use Rattle.placement_core.proofs.ListLemmas.{each-from_All}
use Rattle.isolation_groups.specs.Groups.{group_of}
use Rattle.placement_plan.specs.Choices.{taking_cmp}
use Rattle.placement_plan.specs.First.{MayHold}
use Rattle.placement_plan.proofs.ChoiceLemmas.{BestBelow, best_within, best_found, best_none, best_takes, best_skip, taking_total}
use Rattle.first_placement.proofs.initial.holder.Goals as goal
use Rattle.first_placement.proofs.initial.holder.Goals.{then-is_new_group, else-is_new_group}

pub better-requires : goal.better-requires
better-requires c = record {
  node_in = omega (arith, c.requires.loads, c.loop-number-test.true);
  best_in = best_within (taking_cmp c.args.instances.now (slice_index c.args.loads.now)) (MayHold c.args.instances.now c.args.shard.now) c.loop-number.number (length c.args.loads.now) c.loop-number.best
      (omega (arith, c.requires.loads, c.loop-number-test.true)) c.loop-number.invariant;
}

pub loop-number-preserved : goal.loop-number-preserved
loop-number-preserved c =
    let instances = c.args.instances.now in
    let shard = c.args.shard.now in
    let cmp = taking_cmp instances (slice_index c.args.loads.now) in
    let May = MayHold instances shard in
    let n = c.loop-number.number in
    let Beside : Assignment → Type 0 = λ a. group_of instances a.node ≢ group_of instances n in
    elim c.if-is_new_group.branch [
      | then-is_new_group w ↦ subst (BestBelow cmp May (n + 1)) (sym w.best-is)
          (best_takes cmp (taking_total instances (slice_index c.args.loads.now)) May n w.better.result c.loop-number.best w.better.ensures.alone w.better.ensures.before
          (record { within = c.loop-number-test.true; free = each-from_All Beside shard (c.is_new_group.ensures.0 w.if-is_new_group.true) }) c.loop-number.invariant)
      | else-is_new_group w ↦ subst (BestBelow cmp May (n + 1)) (sym w.best-is)
          (best_skip cmp May n c.loop-number.best (λ may. no_true c.is_new_group.result w.if-is_new_group.false (c.is_new_group.ensures.1 (All-from_each Beside shard may.free))) c.loop-number.invariant)
    ]

pub returns : goal.returns
returns c =
    let instances = c.args.instances.now in
    let May = MayHold instances c.args.shard.now in
    let within : (m : ℕ) → May m → m < c.loop-number.number = λ m may. omega (arith, may.within, c.loop-number-test.false) in
    record {
      found = best_found instances (slice_index c.args.loads.now) May c.loop-number.number c.loop-number.best within c.loop-number.invariant;
      none = best_none (taking_cmp instances (slice_index c.args.loads.now)) May c.loop-number.number c.loop-number.best within c.loop-number.invariant;
    }
