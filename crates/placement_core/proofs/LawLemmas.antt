-- The laws of steps and of counted nodes.
use Rattle.std.proofs.Common.{◌≡◌, ◌<◌, ℕ, suc, List, [], length, slice_get, Some, sym, ap, subst, arith}
use Rattle.std.proofs.lemmas.List.{get_or_default}
use Rattle.m3_model.specs.declared.placement.Placement.{Placement}
use Rattle.placement_core.specs.Shards.{Shard, shard_at, counts, is_available}
use Rattle.placement_core.specs.Lawful.{IsShard, IsLawful}
use Rattle.placement_core.specs.Steps.{IsStep, IsShardStep, done_at}
use Rattle.placement_core.specs.Changes.{CountedAreAvailable, MovesOneReplica, CountedHoldAfter, KeepsShards, KeepsLawful, HasOneDoneList}
use Rattle.placement_core.proofs.ListLemmas.{index-from_IsIn, at_index}
use Rattle.placement_core.proofs.OrderLemmas.{at_in}
use Rattle.placement_core.proofs.DoneLemmas.{one_done_list, from_start}
use Rattle.placement_core.proofs.HolderLemmas.{chosen_node, node_chosen, available_of}
use Rattle.placement_core.proofs.ChangeLemmas.{step_shard, step_holders, step_counted, one_end}

pub shard_stands : (place : Placement) (shard : ℕ) → shard < length place.shards → slice_get place.shards shard ≡ Some (shard_at place shard)
shard_stands place shard lt = at_index place.shards shard (shard_at place shard) lt (get_or_default place.shards shard [] (shard_at place shard) lt)

pub counted_are_available : CountedAreAvailable
counted_are_available shard node = (
  λ h. let c = chosen_node is_available shard node h in (c.0, c.1, c.2, available_of (c.0).state c.3),
  λ h. node_chosen is_available shard node h.0 h.1 h.2 (ap counts h.3),
)

shard_lawful : (place : Placement) (s : ℕ) (a : Shard) → IsLawful place → slice_get place.shards s ≡ Some a → IsShard place.rf place.version a
shard_lawful place s a lawful at = lawful.shards a (at_in place.shards s a at)

step_at : (old next : Placement) (done : List (ℕ × ℕ)) (s : ℕ) (a b : Shard) → IsStep old next done → slice_get old.shards s ≡ Some a → slice_get next.shards s ≡ Some b → IsShardStep (suc old.version) a b (done_at s done)
step_at old next done s a b step at_old at_next = subst (λ v. IsShardStep v a b (done_at s done)) step.version (step.each s a b at_old at_next)

pub moves_one_replica : MovesOneReplica
moves_one_replica old next done s a b h = step_holders old.rf old.version a b (done_at s done) (shard_lawful old s a h.lawful h.before) (step_at old next done s a b h.step h.before h.after)

pub counted_hold_after : CountedHoldAfter
counted_hold_after old next done s a b h = step_counted old.rf old.version a b (done_at s done) (shard_lawful old s a h.lawful h.before) (step_at old next done s a b h.step h.before h.after)

pub keeps_shards : KeepsShards
keeps_shards old next done lawful step shard there =
    let i = index-from_IsIn next.shards shard there in
    let at_next = at_index next.shards i.0 shard i.1 (sym (i.2 shard)) in
    let within : i.0 < length old.shards = omega (arith, i.1, step.count) in
    let at_old = shard_stands old i.0 within in
    subst (λ r. IsShard r next.version shard) (sym step.rf) (subst (λ v. IsShard old.rf v shard) (sym step.version)
    (step_shard old.rf old.version (shard_at old i.0) shard (done_at i.0 done) (shard_lawful old i.0 (shard_at old i.0) lawful at_old) (step_at old next done i.0 (shard_at old i.0) shard step at_old at_next)))

pub keeps_lawful : KeepsLawful
keeps_lawful old next done lawful step limits spread = record { limits = limits; shards = keeps_shards old next done lawful step; spread = spread }

pub has_one_done_list : HasOneDoneList
has_one_done_list old next done other lawful s t =
    one_done_list (length old.shards) 0 0 done other (from_start (length old.shards) done s.listed) (from_start (length old.shards) other t.listed) (λ k lt.
    let at_old = shard_stands old k lt in
    let at_next = shard_stands next k (omega (arith, lt, s.count)) in
    one_end old.rf old.version (shard_at old k) (shard_at next k) (done_at k done) (done_at k other) (shard_lawful old k (shard_at old k) lawful at_old)
    (step_at old next done k (shard_at old k) (shard_at next k) s at_old at_next) (step_at old next other k (shard_at old k) (shard_at next k) t at_old at_next))
