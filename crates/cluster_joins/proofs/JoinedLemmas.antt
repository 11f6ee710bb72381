-- The shards that a node joined, in the words of what its bootstrap adds.
use Rattle.std.proofs.Common.{◌≡◌, ◌<◌, ◌≤◌, ◌+◌, ℕ, zero, suc, List, [], ◌∷◌, ◌++◌, map, length, refl, sym, ap, ◌∙◌, subst, inl, inr, arith, length-append}
use Rattle.std.specs.Prelude.{Option, Some, None, option_map}
use Rattle.std.specs.List.{cons_option, filter_map, flat_map}
use Rattle.std.specs.Option.{option_map_or}
use Rattle.m3_model.specs.Ascends.{Ascends}
use Rattle.m3_model.specs.Members.{IsIn}
use Rattle.m3_model.specs.declared.placement.Assignment.{Assignment}
use Rattle.m3_model.specs.declared.placement.Placement.{Placement}
use Rattle.placement_core.specs.Steps.{IsDoneList}
use Rattle.placement_core.proofs.ListLemmas.{at_within}
use Rattle.placement_core.proofs.OrderLemmas.{ascends-map}
use Rattle.placement_plan.specs.Plans.{AreJoining}
use Rattle.peer_streams.specs.Joins.{Join, Opened}
use Rattle.peer_streams.specs.Streams.{replied}
use Rattle.cluster_core.specs.declared.event.StepCall.TheVariants as call
use Rattle.cluster_core.specs.declared.event.StepReply.TheVariants as reply
use Rattle.cluster_placements.specs.Steps.{end_at}
use Rattle.node_joins.specs.Joined.{JoinedOf}
use Rattle.node_joins.specs.Shards.{asked_at, covered_below, joined_shard, shard_if}
use Rattle.told_joins.specs.Lines.{done_by, ends_by, joined_of}
use Rattle.told_joins.proofs.MarkLemmas.{joined_ascend}
use Rattle.cluster_joins.specs.Marks.{done_of, printed_pair, source_slot}

-- ---- what is marked

pub printed_same : (opened : List Opened) → map printed_pair (filter_map joined_shard opened) ≡ joined_of opened
printed_same [] = refl
printed_same (o ∷ opened) = by o.joined (printed_same opened)
  where
    by : (j : Option Join) → map printed_pair (filter_map joined_shard opened) ≡ joined_of opened → map printed_pair (cons_option (option_map (λ (k : Join). record { shard = o.shard; source = k.source; peers = k.peers }) j) (filter_map joined_shard opened)) ≡ cons_option (option_map (λ (k : Join). (o.shard, k.peers)) j) (joined_of opened)
    by None rest = rest
    by (Some j) rest = ap (λ (xs : List (ℕ × List ℕ)). (o.shard, j.peers) ∷ xs) rest

pub done_same : (y : ℕ) (opened : List Opened) → done_of y (filter_map joined_shard opened) ≡ done_by y (joined_of opened)
done_same y [] = refl
done_same y (o ∷ opened) = by o.joined (done_same y opened)
  where
    by : (j : Option Join) → done_of y (filter_map joined_shard opened) ≡ done_by y (joined_of opened) → done_of y (cons_option (option_map (λ (k : Join). record { shard = o.shard; source = k.source; peers = k.peers }) j) (filter_map joined_shard opened)) ≡ done_by y (cons_option (option_map (λ (k : Join). (o.shard, k.peers)) j) (joined_of opened))
    by None rest = rest
    by (Some j) rest = ap (λ (xs : List (ℕ × ℕ)). (o.shard, y) ∷ xs) rest

pub ends_same : (opened : List Opened) → flat_map end_at (map source_slot (filter_map joined_shard opened)) ≡ ends_by opened
ends_same [] = refl
ends_same (o ∷ opened) = by o.joined (ends_same opened)
  where
    by : (j : Option Join) → flat_map end_at (map source_slot (filter_map joined_shard opened)) ≡ ends_by opened → flat_map end_at (map source_slot (cons_option (option_map (λ (k : Join). record { shard = o.shard; source = k.source; peers = k.peers }) j) (filter_map joined_shard opened)))
        ≡ option_map_or (λ (k : Join). replied k.source o.shard call.End reply.Done) j [] ++ ends_by opened
    by None rest = rest
    by (Some j) rest = ap (λ es. replied j.source o.shard call.End reply.Done ++ es) rest

-- ---- few shards

covered_few : (y : ℕ) (only : Option ℕ) (place : Placement) (n : ℕ) → length (covered_below y only place n) ≤ n
covered_few y only place zero = omega arith
covered_few y only place (suc n) =
    let before = covered_few y only place n in
    let long = length-append (covered_below y only place n) (shard_if n (asked_at y only place n)) in
    let one = at_most (asked_at y only place n) in
    omega (arith, before, long, one)
  where
    at_most : (o : Option Assignment) → length (shard_if n o) ≤ 1
    at_most None = omega arith
    at_most (Some a) = omega arith

joined_few : (opened : List Opened) → length (filter_map joined_shard opened) ≤ length opened
joined_few [] = omega arith
joined_few (o ∷ opened) = by (joined_shard o) (joined_few opened)
  where
    by : (j : Option JoinedOf) → length (filter_map joined_shard opened) ≤ length opened → length (cons_option j (filter_map joined_shard opened)) ≤ suc (length opened)
    by None rest = omega (arith, rest)
    by (Some j) rest = omega (arith, rest)

length-shards : (opened : List Opened) → length (map (λ (o : Opened). o.shard) opened) ≡ length opened
length-shards [] = refl
length-shards (o ∷ opened) = ap suc (length-shards opened)

pub few_joined : (y : ℕ) (only : Option ℕ) (place : Placement) (n : ℕ) (opened : List Opened) (joined : List JoinedOf) → map (λ (o : Opened). o.shard) opened ≡ covered_below y only place n → joined ≡ filter_map joined_shard opened → length joined ≤ n
few_joined y only place n opened joined shards are =
    let covered = covered_few y only place n in
    let few = joined_few opened in
    let long = length-shards opened in
    let same = ap length shards in
    let is = ap length are in
    omega (arith, covered, few, long, same, is)

-- ---- the moves that end

pub done_list : (place : Placement) (y : ℕ) (opened : List Opened) → Ascends (λ (a b : Opened). a.shard < b.shard) opened → AreJoining place.shards (done_by y (joined_of opened)) → IsDoneList (length place.shards) (done_by y (joined_of opened))
done_list place y opened up joining = record {
  ascending = ascends-map (λ (d e : ℕ × ℕ). d.0 < e.0) (λ (x : ℕ × List ℕ). (x.0, y)) (joined_of opened) (joined_ascend opened up);
  within = λ d m. at_within place.shards d.0 _ (joining d m).stands;
}
