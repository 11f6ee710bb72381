-- The placement in which the moves of the joined shards are over: it may come next, and each of its replicas is there.
use Rattle.std.proofs.Common.{◌≡◌, ◌≢◌, ◌<◌, ◌≤◌, ℕ, zero, suc, List, [], ◌∷◌, ◌++◌, map, length, refl, sym, ap, ◌∙◌, subst, inl, inr, arith, append_assoc}
use Rattle.std.specs.Prelude.{Option, Some, None, MatchOption, option_map, slice_get, slice_index_or}
use Rattle.std.specs.List.{All, filter_map, flat_map}
use Rattle.std.proofs.lemmas.Option.{same_Some}
use Rattle.m3_model.specs.Members.{IsIn}
use Rattle.m3_model.specs.declared.placement.Assignment.{Assignment}
use Rattle.m3_model.specs.declared.placement.Placement.{Placement}
use Rattle.m3_model.specs.declared.placement.ShardState.TheVariants.{Available}
use Rattle.m3_model.proofs.Lists.{All-from_each}
use Rattle.m3_model.proofs.MemberLemmas.{IsIn-filter_map, IsIn-map, map-IsIn}
use Rattle.placement_core.specs.Lawful.{IsLawful}
use Rattle.placement_core.specs.Shards.{Shard, nodes_of, shard_at}
use Rattle.placement_core.specs.Steps.{Ends, IsStep, done_at, settled}
use Rattle.placement_core.proofs.ChangeLemmas.{settled_was, turned_node}
use Rattle.placement_core.proofs.HolderLemmas.{is_moving, same_node, the_joining}
use Rattle.placement_plan.specs.Plans.{EndsAsNamed, IsAvailable}
use Rattle.peer_streams.specs.Joins.{HasJoinedBy, IsOpened, Join, Opened, StaysAsItWas}
use Rattle.cluster_core.specs.Earlier.{last_place}
use Rattle.cluster_core.specs.Joins.{HasJoined}
use Rattle.cluster_core.specs.Legal.{IsNextPlace, JoinedAt, JoinedThere}
use Rattle.cluster_core.specs.Lists.{At}
use Rattle.cluster_core.specs.declared.event.Asked.TheVariants as asked
use Rattle.cluster_core.specs.declared.event.Event.{Event}
use Rattle.cluster_core.specs.declared.event.Event.TheVariants as event
use Rattle.cluster_core.proofs.ListLemmas.{at_in, at_same}
use Rattle.node_calls.specs.replica_exchange.declared.slot.Slot.{Slot}
use Rattle.node_calls.specs.session_net.Runs.{slot_at}
use Rattle.node_joins.specs.Joined.{JoinedOf}
use Rattle.node_joins.specs.Shards.{joined_shard}
use Rattle.node_joins.proofs.OpenLemmas.{shard_there}
use Rattle.told_joins.specs.Lines.{AreOpened, added_by, done_by, joined_of}
use Rattle.told_joins.proofs.MarkLemmas.{are_enough, how, joined_in, streamed_each}
use Rattle.cluster_joins.specs.Marks.{source_slot}

-- ---- shards by their numbers

low_shard : (shards : List Shard) (s n : ℕ) → IsIn (nodes_of (slice_index_or shards s [])) n → s < length shards
low_shard [] s n m = absurd m
low_shard (shard ∷ shards) zero n m = omega arith
low_shard (shard ∷ shards) (suc s) n m = let low = low_shard shards s n m in omega (arith, low)

shard_is : (shards : List Shard) (s : ℕ) (shard : Shard) → slice_get shards s ≡ Some shard → slice_index_or shards s [] ≡ shard
shard_is [] s shard at = cc
shard_is (x ∷ shards) zero shard at = same_Some x shard at
shard_is (x ∷ shards) (suc s) shard at = shard_is shards s shard at

-- ---- who has a replica

-- the nodes of a shard whose move ended were its nodes before
ended_nodes : (a b : Shard) (to n : ℕ) → Ends a b to → IsIn (nodes_of b) n → IsIn (nodes_of a) n
ended_nodes a b to n ends m =
    let e = ends.2 in
    let x = IsIn-map (λ (z : Assignment). z.node) b n m in
    let w = settled_was e.from to a x.0 (subst (λ xs. IsIn xs x.0) e.next_is x.1) in
    let same : (w.0).node ≡ n = sym (ap (λ (z : Assignment). z.node) w.3 ∙ turned_node to Available w.0) ∙ x.2 in
    subst (IsIn (nodes_of a)) same (map-IsIn (λ (z : Assignment). z.node) a w.0 w.1)

pub next_nodes : (place next : Placement) (done : List (ℕ × ℕ)) → IsAvailable place done next → (n s : ℕ) → IsIn (nodes_of (shard_at next s)) n → IsIn (nodes_of (shard_at place s)) n
next_nodes place next done available n s m =
    let low = low_shard next.shards s n m in
    let many = ((available.follows).shards).count in
    let made = ((available.follows).shards).each s (shard_at place s) (shard_at next s) (shard_there place.shards s (omega (arith, low, many))) (shard_there next.shards s low) in
    by (done_at s done) made
  where
    by : (o : Option ℕ) → MatchOption o (shard_at next s ≡ shard_at place s) (λ to. Ends (shard_at place s) (shard_at next s) to) → IsIn (nodes_of (shard_at place s)) n
    by None same = subst (λ shard. IsIn (nodes_of shard) n) same m
    by (Some to) ends = ended_nodes (shard_at place s) (shard_at next s) to n ends m

-- the node from which a joining one takes over has the shard
source_in : (place : Placement) (lawful : IsLawful place) (s y : ℕ) (j : Join) (events : List Event) → HasJoinedBy place s y j events → IsIn (nodes_of (shard_at place s)) j.source
source_in place lawful s y j events h =
    let shard = (h.given).shard in
    let of_shard = lawful.shards shard (at_in place.shards s shard (h.given).there) in
    let m = (is_moving place.rf place.version shard of_shard h.joining (h.given).among (h.joins).0).0 in
    let it = the_joining shard of_shard.distinct m h.joining (h.given).among (h.joins).0 in
    let same : (m.leaving).node ≡ j.source = same_Some (m.leaving).node j.source (sym (m.is_joining).1 ∙ sym (ap (λ (a : Assignment). a.source) it) ∙ (h.joins).1) in
    subst (λ xs. IsIn (nodes_of xs) j.source) (sym (shard_is place.shards s shard (h.given).there)) (subst (IsIn (nodes_of shard)) same (map-IsIn (λ (a : Assignment). a.node) shard m.leaving m.stands))

pub sources_in : (place : Placement) (lawful : IsLawful place) (y : ℕ) (opened : List Opened) → ((o : Opened) → IsIn opened o → IsOpened place y o) → (slot : Slot) → IsIn (map source_slot (filter_map joined_shard opened)) slot
    → IsIn (nodes_of (shard_at place slot.shard)) slot.node
sources_in place lawful y opened each slot m =
    let j = IsIn-map source_slot (filter_map joined_shard opened) slot m in
    let o = IsIn-filter_map joined_shard opened j.0 j.1 in
    by o.0 (o.0).joined j.0 (each o.0 o.1) o.2 j.2
  where
    by : (o : Opened) (join : Option Join) (j : JoinedOf) → MatchOption join (StaysAsItWas place o.shard y o.added) (λ i. HasJoinedBy place o.shard y i o.added) → option_map (λ (k : Join). record { shard = o.shard; source = k.source; peers = k.peers }) join ≡ Some j → source_slot j ≡ slot
        → IsIn (nodes_of (shard_at place slot.shard)) slot.node
    by o None j h is same = cc
    by o (Some k) j h is same =
        let from : record { shard = o.shard; source = k.source; peers = k.peers } ≡ j = same_Some (record { shard = o.shard; source = k.source; peers = k.peers }) j is in
        let at : slot_at k.source o.shard ≡ slot = ap source_slot from ∙ same in
        subst (λ (t : Slot). IsIn (nodes_of (shard_at place t.shard)) t.node) at (source_in place lawful o.shard y k o.added h)

-- ---- the next placement

module _ (place : Placement) (lawful : IsLawful place) (y : ℕ) (only : Option ℕ) (opened : List Opened) (all : AreOpened place y only opened []) (events rest : List Event) where
  abbrev past : List Event
  past = events ++ (added_by opened ++ rest)

  joined_there : (o : Opened) (j : Join) → IsIn opened o → o.joined ≡ Some j → JoinedAt past place o.shard y
  joined_there o j m is shard there = All-from_each (JoinedThere past place.rf shard o.shard y) shard (λ a among to_node joins. by a among to_node)
    where
      h : HasJoinedBy place o.shard y j o.added
      h = how place lawful y only opened [] all o j m is

      by : (a : Assignment) → IsIn shard a → a.node ≡ y → HasJoined past place.rf shard o.shard y a.tenure
      by a among to_node =
          let same : (h.given).shard ≡ shard = at_same place.shards o.shard (h.given).shard shard (h.given).there there in
          let distinct = (lawful.shards shard (at_in place.shards o.shard shard there)).distinct in
          let own : h.joining ≡ a = same_node shard h.joining a distinct (subst (λ xs. IsIn xs h.joining) same (h.given).among) among ((h.given).to_node ∙ sym to_node) in
          subst (λ (x : Assignment). HasJoined past place.rf shard o.shard y x.tenure) own (subst (λ xs. HasJoined past place.rf xs o.shard y (h.joining).tenure) same (record {
            peers = j.peers;
            enough = are_enough place lawful y only opened [] all o j h;
            streamed = λ q i. streamed_each place lawful y only opened [] all o j m h events rest q i;
          }))

  pub next_place : (next : Placement) → last_place past ≡ Some place → IsStep place next (done_by y (joined_of opened)) → IsNextPlace past next (done_by y (joined_of opened))
  next_place next last step = record {
    last = place;
    last_is = last;
    step = step;
    joined = All-from_each (λ (d : ℕ × ℕ). JoinedAt past place d.0 d.1) (done_by y (joined_of opened)) (λ d m.
        let x = IsIn-map (λ (z : ℕ × List ℕ). (z.0, y)) (joined_of opened) d m in
        let w = joined_in opened x.0 x.1 in
        subst (λ (e : ℕ × ℕ). JoinedAt past place e.0 e.1) (ap (λ (z : ℕ × List ℕ). (z.0, y)) w.is ∙ x.2) (joined_there w.one w.join w.among w.joined));
  }
