use Rattle.std.proofs.Common.{◌+◌, List, [], ◌∷◌, ◌++◌, ℕ, length, slice_index, subst, sym, arith}
use Rattle.placement_core.specs.Shards.{Shard}
use Rattle.placement_plan.specs.Choices.{IsLeastLoaded}
use Rattle.placement_plan.specs.Loads.{AreLoads}
use Rattle.placement_plan.specs.First.{MayHold, IsPlacedShard}
use Rattle.first_placement.proofs.FirstLemmas.{PlacedBelow, placed_more, placed_all, too_few}
use Rattle.first_placement.proofs.initial.placed_shard.Goals as goal

pub returns-in_default-clause-stuck : goal.returns-in_default-clause-stuck
returns-in_default-clause-stuck c =
    too_few c.args.rf c.args.instances.now c.loop-count.shard.items (omega (arith, (c.loop-count.invariant).many, c.loop-count-test.true))
    (subst (λ (shard : Shard). (node : ℕ) → ¬ MayHold c.args.instances.now shard node) c.as_slice-in-loop-count.ensures.value c.in_default.ensures.none)

pub loop-count-preserved : goal.loop-count-preserved
loop-count-preserved c =
    let instances = c.args.instances.now in
    let node = c.in-Some.node in
    let least : IsLeastLoaded instances (slice_index c.loop-count.loads.items) (MayHold instances c.loop-count.shard.items) node =
    subst (λ (table : List ℕ). IsLeastLoaded instances (slice_index table) (MayHold instances c.loop-count.shard.items) node) c.as_slice.ensures.value
    (subst (λ (shard : Shard). IsLeastLoaded instances (slice_index c.as_slice.result.now) (MayHold instances shard) node) c.as_slice-in-loop-count.ensures.value c.in-Some.ensures.found) in
    subst (λ (shard : Shard). PlacedBelow instances c.args.loads.now.items c.raise.new.loads.items shard (c.loop-count.count + 1)) (sym c.in_ok-push.ensures.items)
    (placed_more instances c.args.loads.now.items c.loop-count.loads.items c.raise.new.loads.items c.loop-count.shard.items c.loop-count.count node least c.raise.ensures c.loop-count.invariant)

pub returns-clause-placed : goal.returns-clause-placed
returns-clause-placed c =
    let placed = placed_all c.args.rf c.args.instances.now c.args.loads.now.items c.loop-count.loads.items c.loop-count.shard.items c.loop-count.count (omega arith) (omega (arith, c.loop-count-test.false)) c.loop-count.invariant in
    subst (λ (shard : Shard). (lower : List Shard) → AreLoads (length c.args.instances.now) lower c.args.loads.now.items → IsPlacedShard c.args.rf c.args.instances.now lower shard) (sym c.from_vec.ensures) placed

pub returns-clause-loads : goal.returns-clause-loads
returns-clause-loads c =
    subst (λ (shard : Shard). (lower : List Shard) → AreLoads (length c.args.instances.now) lower c.args.loads.now.items → AreLoads (length c.args.instances.now) (lower ++ shard ∷ []) c.loop-count.loads.items) (sym c.from_vec.ensures) (c.loop-count.invariant).loads
