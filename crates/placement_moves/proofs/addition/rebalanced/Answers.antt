use Rattle.std.proofs.Common.{◌≡◌, ◌<◌, ℕ, List, length, slice_get, slice_set, slice_index, count_by, Some, true, subst, sym, ap, ◌∙◌, arith}
use Rattle.std.proofs.lemmas.Option.{slice_get_within}
use Rattle.placement_core.specs.Shards.{Shard, is_steady}
use Rattle.placement_core.proofs.ListLemmas.{at_index, same_at}
use Rattle.placement_plan.specs.Choices.{moved}
use Rattle.placement_plan.specs.Loads.{AreLoads}
use Rattle.placement_plan.specs.Additions.{MayGiveShard, IsNextMove, Rebalances}
use Rattle.placement_plan.proofs.AddLemmas.{BalancedBelow, balanced_none, balanced_more, balanced_done, fewer_steady}
use Rattle.placement_moves.proofs.addition.rebalanced.Goals as goal

pub loop-number-init : goal.loop-number-init
loop-number-init c =
    subst (λ (current : List Shard). BalancedBelow c.args.instances.now c.args.version c.args.to c.args.shards.now current c.in_ok-loads.loads.items) (sym (c.into_vec-next.ensures ∙ c.in_ok-copy.ensures))
    (balanced_none c.args.instances.now c.args.version c.args.to c.args.shards.now c.in_ok-loads.loads.items c.requires.replicas
    (subst (λ (shards : List Shard). AreLoads (length c.args.instances.now) shards c.in_ok-loads.loads.items) c.as_slice.ensures c.in_ok-loads.ensures))

pub index-requires : goal.index-requires
index-requires c =
    let next : IsNextMove (slice_index c.as_slice-in-loop-number.result.now) c.args.instances.now c.as_slice-in-loop-number-2.result.now c.args.to c.in-Some.number c.in-Some.from = c.in-Some.ensures.found in
    let first = next.shard in
    omega (arith, slice_get_within c.as_slice-in-loop-number-2.result.now c.in-Some.number first.shard first.stands, c.as_slice-in-loop-number-2.ensures.len)

pub index_mut-requires : goal.index_mut-requires
index_mut-requires c =
    let next : IsNextMove (slice_index c.as_slice-in-loop-number.result.now) c.args.instances.now c.as_slice-in-loop-number-2.result.now c.args.to c.in-Some.number c.in-Some.from = c.in-Some.ensures.found in
    let first = next.shard in
    omega (arith, slice_get_within c.as_slice-in-loop-number-2.result.now c.in-Some.number first.shard first.stands, c.as_slice-in-loop-number-2.ensures.len)

pub loop-number-smaller : goal.loop-number-smaller
loop-number-smaller c =
    let current : List Shard = c.loop-number.next.items in
    let number = c.in-Some.number in
    let from = c.in-Some.from in
    let a : Shard = c.index.result.now in
    let next : IsNextMove (slice_index c.as_slice-in-loop-number.result.now) c.args.instances.now current c.args.to number from =
    subst (λ (shards : List Shard). IsNextMove (slice_index c.as_slice-in-loop-number.result.now) c.args.instances.now shards c.args.to number from) c.as_slice-in-loop-number-2.ensures.value c.in-Some.ensures.found in
    let first = next.shard in
    let at : slice_get current number ≡ Some a = at_index current number a (slice_get_within current number first.shard first.stands) c.index.ensures in
    let steady : is_steady a ≡ true = ap is_steady (same_at current number a first.shard at first.stands) ∙ (first.holds).steady in
    let shard_is : c.in_ok-shard.shard ≡ moved c.args.version from c.args.to a = c.in_ok-shard.ensures ∙ ap (moved c.args.version from c.args.to) c.as_slice-in-Some.ensures in
    subst (λ (b : Shard). count_by is_steady (slice_set current number b) < count_by is_steady current) (sym shard_is) (fewer_steady c.args.version from c.args.to current number a at steady)

pub loop-number-preserved : goal.loop-number-preserved
loop-number-preserved c =
    let instances = c.args.instances.now in
    let current : List Shard = c.loop-number.next.items in
    let number = c.in-Some.number in
    let from = c.in-Some.from in
    let a : Shard = c.index.result.now in
    let next : IsNextMove (slice_index c.loop-number.loads.items) instances current c.args.to number from =
    subst (λ (table : List ℕ). IsNextMove (slice_index table) instances current c.args.to number from) c.as_slice-in-loop-number.ensures.value
    (subst (λ (shards : List Shard). IsNextMove (slice_index c.as_slice-in-loop-number.result.now) instances shards c.args.to number from) c.as_slice-in-loop-number-2.ensures.value c.in-Some.ensures.found) in
    let first = next.shard in
    let at : slice_get current number ≡ Some a = at_index current number a (slice_get_within current number first.shard first.stands) c.index.ensures in
    let shard_is : c.in_ok-shard.shard ≡ moved c.args.version from c.args.to a = c.in_ok-shard.ensures ∙ ap (moved c.args.version from c.args.to) c.as_slice-in-Some.ensures in
    subst (λ (b : Shard). BalancedBelow instances c.args.version c.args.to c.args.shards.now (slice_set current number b) c.shift.new.loads.items) (sym shard_is)
    (balanced_more instances c.args.version c.args.to c.args.shards.now current c.loop-number.loads.items c.shift.new.loads.items number from a c.requires.to at next c.shift.ensures c.loop-number.invariant)

pub returns-clause-ok : goal.returns-clause-ok
returns-clause-ok c =
    let instances = c.args.instances.now in
    let current : List Shard = c.loop-number.next.items in
    let none : (from : ℕ) → ¬ MayGiveShard (slice_index c.loop-number.loads.items) instances current c.args.to from =
    subst (λ (table : List ℕ). (from : ℕ) → ¬ MayGiveShard (slice_index table) instances current c.args.to from) c.as_slice-in-loop-number.ensures.value
    (subst (λ (shards : List Shard). (from : ℕ) → ¬ MayGiveShard (slice_index c.as_slice-in-loop-number.result.now) instances shards c.args.to from) c.as_slice-in-loop-number-2.ensures.value c.in_default.ensures.none) in
    subst (λ (next : List Shard). (moves : List (ℕ × ℕ)) × Rebalances instances c.args.version c.args.to moves c.args.shards.now next) (sym c.from_vec.ensures)
    (balanced_done instances c.args.version c.args.to c.args.shards.now current c.loop-number.loads.items c.requires.to none c.loop-number.invariant)
