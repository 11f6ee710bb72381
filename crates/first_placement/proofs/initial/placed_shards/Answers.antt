use Rattle.std.proofs.Common.{◌≡◌, ◌+◌, ℕ, List, [], ◌∷◌, ◌++◌, Option, Some, IfSome, length, take, slice_get, subst, sym}
use Rattle.placement_core.specs.Shards.{Shard}
use Rattle.placement_plan.specs.Loads.{AreLoads}
use Rattle.placement_plan.specs.First.{IsPlacedShard}
use Rattle.first_placement.proofs.FirstLemmas.{ShardsBelow, shards_more}
use Rattle.first_placement.proofs.initial.placed_shards.Goals as goal

pub loop-number-preserved : goal.loop-number-preserved
loop-number-preserved c =
    let instances = c.args.instances.now in
    let rf = c.args.rf in
    let next = c.loop-number.next.items in
    let shard = c.in-Some.shard in
    let loads = (c.loop-number.invariant).loads in
    let placed = subst (λ (o : Option Shard). IfSome o (λ s. (lower : List Shard) → AreLoads (length instances) lower c.loop-number.loads.items → IsPlacedShard rf instances lower s)) c.in-Some.is c.in_ok-shard.ensures.placed in
    let grown = subst (λ (o : Option Shard). IfSome o (λ s. (lower : List Shard) → AreLoads (length instances) lower c.loop-number.loads.items → AreLoads (length instances) (lower ++ s ∷ []) c.placed_shard.new.loads.items)) c.in-Some.is c.in_ok-shard.ensures.loads in
    subst (λ (shards : List Shard). ShardsBelow rf instances c.placed_shard.new.loads.items shards (c.loop-number.number + 1)) (sym c.in_ok-push-in-Some.ensures.items)
    (shards_more rf instances c.loop-number.loads.items c.placed_shard.new.loads.items next shard c.loop-number.number (placed next loads) (grown next loads) c.loop-number.invariant)

pub returns-clause-each : goal.returns-clause-each
returns-clause-each c = subst (λ (next : List Shard). (s : ℕ) (shard : Shard) → slice_get next s ≡ Some shard → IsPlacedShard c.args.rf c.args.instances.now (take s next) shard) (sym c.from_vec.ensures) (c.loop-number.invariant).each
