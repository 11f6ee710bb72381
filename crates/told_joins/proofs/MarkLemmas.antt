-- The placement that ends the moves of the shards which a bootstrap joined: whom it prints, and whose tenures end.
use Rattle.std.proofs.Common.{◌≡◌, ◌≢◌, ◌≤◌, ◌<◌, ◌∙◌, ℕ, true, false, List, [], ◌∷◌, ◌++◌, length, map, filter, Option, Some, None, refl, sym, ap, subst, inl, inr, append_assoc}
use Rattle.std.specs.Prelude.{IsTrue, MatchOption, is_none, option_map}
use Rattle.std.specs.List.{cons_option, flat_map}
use Rattle.std.specs.Option.{option_map_or}
use Rattle.std.proofs.lemmas.Bool.{cases_Bool, cases_eq}
use Rattle.std.proofs.lemmas.Option.{same_Some}
use Rattle.m3_model.specs.Ascends.{Ascends}
use Rattle.m3_model.specs.Levels.{majority}
use Rattle.m3_model.specs.Members.{IsIn}
use Rattle.m3_model.specs.declared.placement.Assignment.{Assignment}
use Rattle.m3_model.specs.declared.placement.Placement.{Placement}
use Rattle.m3_model.specs.declared.placement.ShardState.TheVariants.{Available}
use Rattle.m3_model.specs.declared.reason.Reason.{Reason}
use Rattle.m3_model.proofs.Ascending.{Ascends-filter, Ascends-weaken}
use Rattle.m3_model.proofs.Lists.{IsIn-filter, IsIn-filter_passes, IsIn-flat_map, flat_map-IsIn}
use Rattle.m3_model.proofs.MemberLemmas.{IsIn-append_left, IsIn-append_right, IsIn-filter_map, IsIn-map, filter_map-IsIn, map-IsIn}
use Rattle.placement_core.specs.Lawful.{IsLawful}
use Rattle.placement_core.specs.Majorities.{IsMajority}
use Rattle.placement_core.specs.NodeNames.{IsNamedBelow}
use Rattle.placement_core.specs.Shards.{Shard, former}
use Rattle.placement_core.specs.Steps.{Ends, done_at}
use Rattle.placement_core.proofs.ChangeLemmas.{settled_was, turned_node}
use Rattle.placement_core.proofs.DoneLemmas.{at_here, at_other}
use Rattle.placement_core.proofs.HolderLemmas.{same_node}
use Rattle.placement_core.proofs.ListLemmas.{IsIn-from_Any}
use Rattle.placement_core.proofs.OrderLemmas.{ascends-map}
use Rattle.placement_plan.specs.Plans.{AreJoining, EndsAsNamed, IsAvailable, IsJoiningPair}
use Rattle.cluster_core.specs.Joins.{HasStreamed}
use Rattle.cluster_core.specs.declared.event.Event.{Event}
use Rattle.cluster_core.specs.declared.event.Event.TheVariants as event
use Rattle.cluster_core.specs.declared.event.StepCall.TheVariants as call
use Rattle.cluster_core.specs.declared.event.StepReply.TheVariants as reply
use Rattle.cluster_core.proofs.ListLemmas.{at_in}
use Rattle.transcripts.specs.Placements.{has_replica}
use Rattle.transcripts.specs.Waiting.{is_covering}
use Rattle.told_by.specs.Hears.{Happens, HearsStreamed, InStretch}
use Rattle.told_by.specs.Steps.{EndsGone}
use Rattle.told_causes.proofs.WaitLemmas.{member_given}
use Rattle.peer_streams.specs.Joins.{AskedPeer, begun_with, HasJoinedBy, Join, Opened, StaysAsItWas, is_streamed}
use Rattle.told_joins.specs.Lines.{AreOpened, added_by, done_by, ends_by, joined_of, source_ends}
use Rattle.peer_streams.specs.Streams.{IsBroken, IsWhole, fenced_pages, replied}
use Rattle.told_joins.proofs.LineLemmas.{in_stretch}
use Rattle.told_joins.proofs.ListLemmas.{ascends_front, ascends_of, below_differs, part_of}
use Rattle.peer_streams.proofs.StreamLemmas.{has_streamed}

-- ---- the shards that were joined

-- a shard that was joined, with how
pub record WasJoined (opened : List Opened) (x : ℕ × List ℕ) : Type 0 where
  pub one : Opened
  pub among : IsIn opened one
  pub join : Join
  pub joined : one.joined ≡ Some join
  pub is : (one.shard, join.peers) ≡ x

abbrev printed_by : Opened → Option (ℕ × List ℕ)
printed_by o = option_map (λ (j : Join). (o.shard, j.peers)) o.joined

pub joined_in : (opened : List Opened) (x : ℕ × List ℕ) → IsIn (joined_of opened) x → WasJoined opened x
joined_in opened x m = let o = IsIn-filter_map printed_by opened x m in by o.0 o.1 (o.0).joined refl o.2
  where
    by : (o : Opened) → IsIn opened o → (j : Option Join) → o.joined ≡ j → option_map (λ (k : Join). (o.shard, k.peers)) j ≡ Some x → WasJoined opened x
    by o among None is e = cc
    by o among (Some j) is e = record { one = o; among = among; join = j; joined = is; is = same_Some (o.shard, j.peers) x e }

-- each stands by its number
joined_on : (o : Opened) (opened : List Opened) → ((z : Opened) → IsIn opened z → o.shard < z.shard) → Ascends (λ (a b : ℕ × List ℕ). a.0 < b.0) (joined_of opened) → (j : Option Join)
    → Ascends (λ (a b : ℕ × List ℕ). a.0 < b.0) (cons_option (option_map (λ (k : Join). (o.shard, k.peers)) j) (joined_of opened))
joined_on o opened first rest None = rest
joined_on o opened first rest (Some j) = (λ x m. let w = joined_in opened x m in subst (λ (z : ℕ × List ℕ). o.shard < z.0) w.is (first w.one w.among), rest)

pub joined_ascend : (opened : List Opened) → Ascends (λ (a b : Opened). a.shard < b.shard) opened → Ascends (λ (a b : ℕ × List ℕ). a.0 < b.0) (joined_of opened)
joined_ascend [] up = tt
joined_ascend (o ∷ opened) up = joined_on o opened up.0 (joined_ascend opened up.1) o.joined

-- its move is the one that the list of moves names
pub named_there : (y : ℕ) (available : List (ℕ × List ℕ)) (x : ℕ × List ℕ) → IsIn available x → done_at x.0 (done_by y available) ≡ Some y
named_there y [] x m = absurd m
named_there y (z ∷ available) x (inl is) = at_here x.0 (z.0, y) (done_by y available) (ap (λ (w : ℕ × List ℕ). w.0) is)
named_there y (z ∷ available) x (inr later) = elim (cases_eq z.0 x.0) as (λ _. done_at x.0 (done_by y (z ∷ available)) ≡ Some y) [
  | inl same ↦ at_here x.0 (z.0, y) (done_by y available) same
  | inr other ↦ at_other x.0 (z.0, y) (done_by y available) other ∙ named_there y available x later
]

-- the node that was asked
abbrev node : AskedPeer → ℕ
node p = p.node

-- what stands before and behind the pages of one that streamed whole
parts_of : (events all front own back begun peers before peer after pages rest : List Event) → all ≡ front ++ (own ++ back) → own ≡ begun ++ peers → peers ≡ before ++ (peer ++ after) → peer ≡ pages
    → events ++ (all ++ rest) ≡ (events ++ front) ++ (begun ++ (before ++ (pages ++ (after ++ (back ++ rest)))))
parts_of events all front own back begun peers before peer after pages rest e f g h =
    let inner : peers ++ (back ++ rest) ≡ before ++ (pages ++ (after ++ (back ++ rest))) =
    ap (λ xs. xs ++ (back ++ rest)) (g ∙ ap (λ xs. before ++ (xs ++ after)) h) ∙ append_assoc before (pages ++ after) (back ++ rest) ∙ ap (λ xs. before ++ xs) (append_assoc pages after (back ++ rest)) in
    let shown : (own ++ back) ++ rest ≡ begun ++ (before ++ (pages ++ (after ++ (back ++ rest)))) =
    append_assoc own back rest ∙ ap (λ xs. xs ++ (back ++ rest)) f ∙ append_assoc begun peers (back ++ rest) ∙ ap (λ xs. begun ++ xs) inner in
    ap (λ xs. events ++ (xs ++ rest)) e ∙ ap (λ xs. events ++ xs) (append_assoc front (own ++ back) rest ∙ ap (λ xs. front ++ xs) shown) ∙ sym (append_assoc events front (begun ++ (before ++ (pages ++ (after ++ (back ++ rest))))))

module _ (place : Placement) (lawful : IsLawful place) (y : ℕ) (only : Option ℕ) (opened : List Opened) (left : List ℕ) (all : AreOpened place y only opened left) where
  pub up : Ascends (λ (a b : Opened). a.shard < b.shard) opened
  up = ascends_of (λ (a b : ℕ). a < b) (λ (o : Opened). o.shard) opened (ascends_front (λ (a b : ℕ). a < b) (map (λ (o : Opened). o.shard) opened) left all.by_number)

  pub covers_one : (o : Opened) → IsIn opened o → IsTrue (is_covering o.shard only)
  covers_one o m = ((all.are o.shard).0 (IsIn-append_left (map (λ (x : Opened). x.shard) opened) left o.shard (map-IsIn (λ (x : Opened). x.shard) opened o m))).0

  pub how : (o : Opened) (j : Join) → IsIn opened o → o.joined ≡ Some j → HasJoinedBy place o.shard y j o.added
  how o j m is = subst (λ k. MatchOption k (StaysAsItWas place o.shard y o.added) (λ i. HasJoinedBy place o.shard y i o.added)) is (all.each o m)

  pub covers_joined : (x : ℕ × List ℕ) → IsIn (joined_of opened) x → IsTrue (is_covering x.0 only)
  covers_joined x m = let w = joined_in opened x m in subst (λ (z : ℕ × List ℕ). IsTrue (is_covering z.0 only)) w.is (covers_one w.one w.among)

  pub covers_done : (d : ℕ × ℕ) → IsIn (done_by y (joined_of opened)) d → (d.1 ≡ y) × IsTrue (is_covering d.0 only)
  covers_done d m = let x = IsIn-map (λ (z : ℕ × List ℕ). (z.0, y)) (joined_of opened) d m in (ap (λ (e : ℕ × ℕ). e.1) (sym x.2), subst (λ (e : ℕ × ℕ). IsTrue (is_covering e.0 only)) x.2 (covers_joined x.0 x.1))

  pub are_joining : AreJoining place.shards (done_by y (joined_of opened))
  are_joining d m =
      let x = IsIn-map (λ (z : ℕ × List ℕ). (z.0, y)) (joined_of opened) d m in
      let w = joined_in opened x.0 x.1 in
      let h = how w.one w.join w.among w.joined in
      let pair : IsJoiningPair place.shards ((w.one).shard, y) = record { shard = (h.given).shard; stands = (h.given).there; joins = ((w.join).source, (h.joining, (h.given).among, (h.given).to_node, h.joins)) } in
      subst (IsJoiningPair place.shards) (ap (λ (z : ℕ × List ℕ). (z.0, y)) w.is ∙ x.2) pair

  -- ---- whose tenures end

  module _ (next : Placement) (available : IsAvailable place (done_by y (joined_of opened)) next) where
    gone : (o : Opened) (j : Join) → IsIn opened o → o.joined ≡ Some j → has_replica (Some next) o.shard j.source ≡ false
    gone o j m is = elim (cases_Bool (has_replica (Some next) o.shard j.source)) as (λ _. has_replica (Some next) o.shard j.source ≡ false) [ inl there ↦ absurd (clash there) | inr none ↦ none ]
      where
        h : HasJoinedBy place o.shard y j o.added
        h = how o j m is

        clash : has_replica (Some next) o.shard j.source ≡ true → ⊥
        clash there =
            let own = member_given next o.shard j.source there in
            let after : Shard = (own.1).0 in
            let x = IsIn-from_Any (λ (a : Assignment). (a.node ≡ j.source) × (a.tenure ≡ own.0)) after (own.1).2 in
            let was : IsIn (joined_of opened) (o.shard, j.peers) = filter_map-IsIn printed_by opened o (o.shard, j.peers) m (ap (option_map (λ (k : Join). (o.shard, k.peers))) is) in
            let named : EndsAsNamed (done_by y (joined_of opened)) o.shard (h.given).shard after = ((available.follows).shards).each o.shard (h.given).shard after (h.given).there (own.1).1 in
            let ends : Ends (h.given).shard after y = subst (λ k. MatchOption k (after ≡ (h.given).shard) (λ to. Ends (h.given).shard after to)) (named_there y (joined_of opened) (o.shard, j.peers) was) named in
            let distinct = (lawful.shards (h.given).shard (at_in place.shards o.shard (h.given).shard (h.given).there)).distinct in
            let e = ends.2 in
            let joining_same : ends.0 ≡ h.joining = same_node (h.given).shard ends.0 h.joining distinct ends.1 (h.given).among (e.node ∙ sym (h.given).to_node) in
            let source_same : j.source ≡ e.from = same_Some j.source e.from (sym (h.joins).1 ∙ ap (λ (a : Assignment). a.source) (sym joining_same) ∙ (e.joins).1) in
            let w = settled_was e.from y (h.given).shard x.0 (subst (λ xs. IsIn xs x.0) e.next_is x.1) in
            w.2 (sym (ap (λ (a : Assignment). a.node) w.3 ∙ turned_node y Available w.0) ∙ (x.2).0 ∙ source_same)

    pub ends_gone : (e : Event) → IsIn (ends_by opened) e → EndsGone next e
    ends_gone e m = let o = IsIn-flat_map source_ends opened e m in by o.0 o.1 (o.0).joined refl o.2
      where
        by : (o : Opened) → IsIn opened o → (j : Option Join) → o.joined ≡ j → IsIn (option_map_or (λ (k : Join). replied k.source o.shard call.End reply.Done) j []) e → EndsGone next e
        by o m None is none = absurd none
        by o m (Some j) is (inl e) = subst (EndsGone next) e (gone o j m is)
        by o m (Some j) is (inr (inl e)) = subst (EndsGone next) e (gone o j m is)
        by o m (Some j) is (inr (inr none)) = absurd none

  -- ---- who streamed

  -- they stand by name
  pub are_by_name : (o : Opened) (j : Join) (h : HasJoinedBy place o.shard y j o.added) → Ascends (IsNamedBelow place) j.peers
  are_by_name o j h = subst (Ascends (IsNamedBelow place)) (sym h.names) (ascends-map (IsNamedBelow place) node (filter is_streamed h.peers) (Ascends-filter (λ (a b : AskedPeer). IsNamedBelow place (node a) (node b)) is_streamed h.peers
      (ascends_of (IsNamedBelow place) node h.peers (ascends_front (IsNamedBelow place) (map node h.peers) h.left (h.asked).by_name))))

  -- they are a majority of the former replicas
  pub are_enough : (o : Opened) (j : Join) (h : HasJoinedBy place o.shard y j o.added) → IsMajority place.rf (former (h.given).shard) j.peers
  are_enough o j h = record {
    distinct = subst (Ascends ◌≢◌) (sym h.names) (ascends-map ◌≢◌ node (filter is_streamed h.peers) (Ascends-filter (λ (a b : AskedPeer). node a ≢ node b) is_streamed h.peers (Ascends-weaken (λ (a b : AskedPeer). IsNamedBelow place (node a) (node b)) (λ (a b : AskedPeer). node a ≢ node b) h.peers (λ a b. below_differs place (node a) (node b))
        (ascends_of (IsNamedBelow place) node h.peers (ascends_front (IsNamedBelow place) (map node h.peers) h.left (h.asked).by_name)))));
    within = λ n m. let p = IsIn-map node (filter is_streamed h.peers) n (subst (λ xs. IsIn xs n) h.names m) in
        ((h.asked).are_former n).0 (IsIn-append_left (map node h.peers) h.left n (subst (IsIn (map node h.peers)) p.2 (map-IsIn node h.peers p.0 (IsIn-filter is_streamed h.peers p.0 p.1))));
    enough = subst (λ xs. majority place.rf ≤ length xs) (sym h.names) h.enough;
  }
      -- and each of them streamed whole since the replica began

  pub streamed_each : (o : Opened) (j : Join) → IsIn opened o → (h : HasJoinedBy place o.shard y j o.added) → (events rest : List Event) (q : ℕ) → IsIn j.peers q → HasStreamed o.shard y (h.joining).tenure q (events ++ (added_by opened ++ rest))
  streamed_each o j m h events rest q among =
      let p = IsIn-map (λ (x : AskedPeer). x.node) (filter is_streamed h.peers) q (subst (λ xs. IsIn xs q) h.names among) in
      let of_all = IsIn-filter is_streamed h.peers p.0 p.1 in
      subst (λ n. HasStreamed o.shard y (h.joining).tenure n (events ++ (added_by opened ++ rest))) p.2 (by p.0 of_all (p.0).why (IsIn-filter_passes is_streamed h.peers p.0 p.1) ((h.asked).each p.0 of_all))
    where
      by : (p : AskedPeer) → IsIn h.peers p → (why : Option Reason) → is_none why ≡ true → MatchOption why (IsWhole o.shard p.node y (h.joining).tenure p.added) (λ w. IsBroken o.shard p.node y (h.joining).tenure w p.added)
          → HasStreamed o.shard y (h.joining).tenure p.node (events ++ (added_by opened ++ rest))
      by p of_all (Some why) none whole = cc
      by p of_all None none whole =
          let a = part_of (λ (x : Opened). x.added) opened o m in
          let b = part_of (λ (x : AskedPeer). x.added) h.peers p of_all in
          subst (HasStreamed o.shard y (h.joining).tenure p.node)
          (sym (parts_of events (added_by opened) a.0 o.added a.1 (begun_with y o.shard (h.joining).tenure h.fence h.points) (flat_map (λ (x : AskedPeer). x.added) h.peers) b.0 p.added b.1 (fenced_pages o.shard p.node y (h.joining).tenure whole.pages) rest a.2 h.are b.2 whole.are))
          (has_streamed o.shard p.node y (h.joining).tenure h.fence h.points (events ++ a.0) b.0 whole.pages (b.1 ++ (a.1 ++ rest)) whole.cover)

  -- each was fenced in the line
  pub fenced_each : (o : Opened) (j : Join) (h : HasJoinedBy place o.shard y j o.added) (q : ℕ) → IsIn j.peers q → IsIn o.added (event.Step q o.shard (call.Fence (h.joining).tenure) reply.Done)
  fenced_each o j h q among =
      let p = IsIn-map (λ (x : AskedPeer). x.node) (filter is_streamed h.peers) q (subst (λ xs. IsIn xs q) h.names among) in
      let of_all = IsIn-filter is_streamed h.peers p.0 p.1 in
      let fence : Event = event.Step q o.shard (call.Fence (h.joining).tenure) reply.Done in
      let fenced : IsIn (p.0).added fence = subst (λ n. IsIn (p.0).added (event.Step n o.shard (call.Fence (h.joining).tenure) reply.Done)) p.2 (by p.0 (p.0).why (IsIn-filter_passes is_streamed h.peers p.0 p.1) ((h.asked).each p.0 of_all)) in
      subst (λ xs. IsIn xs fence) (sym h.are) (IsIn-append_right (begun_with y o.shard (h.joining).tenure h.fence h.points) (flat_map (λ (x : AskedPeer). x.added) h.peers) fence (flat_map-IsIn (λ (x : AskedPeer). x.added) h.peers p.0 fence of_all fenced))
    where
      by : (p : AskedPeer) → (why : Option Reason) → is_none why ≡ true → MatchOption why (IsWhole o.shard p.node y (h.joining).tenure p.added) (λ w. IsBroken o.shard p.node y (h.joining).tenure w p.added)
          → IsIn p.added (event.Step p.node o.shard (call.Fence (h.joining).tenure) reply.Done)
      by p (Some why) none whole = cc
      by p None none whole = subst (λ xs. IsIn xs (event.Step p.node o.shard (call.Fence (h.joining).tenure) reply.Done)) (sym whole.are) (inr (inl refl))

  -- so the line's turn hears of each that it prints
  pub hears_streamed : (events more rest : List Event) → more ≡ added_by opened ++ rest → HearsStreamed (InStretch (events ++ more) (length events) (length (events ++ more))) (joined_of opened)
  hears_streamed events more rest adds x m q among =
      let w = joined_in opened x m in
      let h = how w.one w.join w.among w.joined in
      let here = fenced_each w.one w.join h q (subst (λ (z : ℕ × List ℕ). IsIn z.1 q) (sym w.is) among) in
      let fence : Event = event.Step q (w.one).shard (call.Fence (h.joining).tenure) reply.Done in
      let in_more : IsIn more fence = subst (λ xs. IsIn xs fence) (sym adds) (IsIn-append_left (added_by opened) rest fence (flat_map-IsIn (λ (z : Opened). z.added) opened w.one fence w.among here)) in
      ((h.joining).tenure, subst (λ (z : ℕ × List ℕ). Happens (InStretch (events ++ more) (length events) (length (events ++ more))) (event.Step q z.0 (call.Fence (h.joining).tenure) reply.Done)) w.is (in_stretch events more fence in_more))
