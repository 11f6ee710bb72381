-- What a bootstrap asks replicas for, and what that brings: begins and merges of its node's replicas, fences and pages of former ones.
use Rattle.std.proofs.Common.{◌≡◌, ℕ, List, [], ◌∷◌, ◌++◌, map, Option, Some, None, refl, sym, subst, inl, inr}
use Rattle.std.specs.Prelude.{MatchOption, IsTrue}
use Rattle.std.specs.List.{flat_map}
use Rattle.m3_model.specs.Members.{IsIn}
use Rattle.m3_model.specs.declared.placement.Assignment.{Assignment}
use Rattle.m3_model.specs.declared.placement.Placement.{Placement}
use Rattle.m3_model.specs.declared.placement.ShardState.TheVariants.{Initializing}
use Rattle.m3_model.specs.declared.reason.Reason.{Reason}
use Rattle.m3_model.proofs.Lists.{IsIn-flat_map}
use Rattle.m3_model.proofs.MemberLemmas.{IsIn-append_cases, IsIn-append_left, map-IsIn}
use Rattle.placement_core.specs.Shards.{Shard, former}
use Rattle.placement_core.proofs.ListLemmas.{Any-from_IsIn}
use Rattle.cluster_core.specs.Lists.{At}
use Rattle.cluster_core.specs.declared.event.Asked.TheVariants as asked
use Rattle.cluster_core.specs.declared.event.Event.{Event}
use Rattle.cluster_core.specs.declared.event.Event.TheVariants as event
use Rattle.cluster_core.specs.declared.event.StepCall.{StepCall}
use Rattle.cluster_core.specs.declared.event.StepCall.TheVariants as call
use Rattle.cluster_core.specs.declared.event.StepReply.{StepReply}
use Rattle.cluster_core.specs.declared.event.StepReply.TheVariants as reply
use Rattle.transcripts.specs.Waiting.{is_covering}
use Rattle.told_by.specs.Makes.{IsAssigned}
use Rattle.peer_streams.specs.Joins.{AreAsked, AskedPeer, BreaksOff, HasJoinedBy, IsBrokenOff, IsGiven, IsHeldUp, IsOpened, Join, MissesPeers, Opened, StaysAsItWas, StopsShort}
use Rattle.told_joins.specs.Lines.{AddsHeldUp, AddsMissed, AddsPart, AddsUnmarked, AreOpened, added_by}
use Rattle.peer_streams.specs.Streams.{Handed, IsBroken, IsMergeRefused, IsPartOfStream, IsRefusedCall, IsWhole, fenced_pages, handed_over, replied}

-- the replica is a former one of a shard that the node joins with this tenure, and that is asked for
pub record IsStreamedOver (place : Placement) (y : ℕ) (only : Option ℕ) (q s tenure : ℕ) : Type 0 where
  pub covers : IsTrue (is_covering s only)
  pub shard : Shard
  pub there : At place.shards s shard
  pub is_former : IsIn (former shard) q
  pub joining : Assignment
  pub joins : IsIn shard joining
  pub to_node : joining.node ≡ y
  pub is_joining : joining.state ≡ Initializing
  pub tenure_is : joining.tenure ≡ tenure

-- what a bootstrap of the node may ask replicas over the placement
abbrev pub MayAskOver : Placement → ℕ → Option ℕ → ℕ → ℕ → StepCall → Type 0
MayAskOver place y only n s (call.Begin tenure) = (n ≡ y) × IsTrue (is_covering s only) × IsAssigned place n s tenure
MayAskOver place y only n s (call.Fence version) = IsStreamedOver place y only n s version
MayAskOver place y only n s (call.Page from) = (tenure : ℕ) × IsStreamedOver place y only n s tenure
MayAskOver place y only n s (call.Merge page) = (n ≡ y) × IsTrue (is_covering s only)
MayAskOver place y only n s _ = ⊥

-- an Ask for it, or its step
abbrev pub MayHappen : Placement → ℕ → Option ℕ → Event → Type 0
MayHappen place y only (event.Ask (asked.Step n s c)) = MayAskOver place y only n s c
MayHappen place y only (event.Step n s c a) = MayAskOver place y only n s c
MayHappen place y only _ = ⊥

pub in_middle : (xs : List ℕ) (x : ℕ) (ys : List ℕ) → IsIn (xs ++ x ∷ ys) x
in_middle [] x ys = inl refl
in_middle (z ∷ xs) x ys = inr (in_middle xs x ys)

module _ (place : Placement) (y : ℕ) (only : Option ℕ) where
  abbrev Happens : Event → Type 0
  Happens = MayHappen place y only

  replied_happens : (n s : ℕ) (c : StepCall) (a : StepReply) → MayAskOver place y only n s c → (e : Event) → IsIn (replied n s c a) e → Happens e
  replied_happens n s c a may e (inl is) = subst Happens is may
  replied_happens n s c a may e (inr (inl is)) = subst Happens is may
  replied_happens n s c a may e (inr (inr none)) = absurd none

  refused_happens : (n s : ℕ) (c : StepCall) (why : Reason) (es : List Event) → MayAskOver place y only n s c → IsRefusedCall n s c why es → (e : Event) → IsIn es e → Happens e
  refused_happens n s c why es may (inl is) e m = replied_happens n s c (reply.Refused why) may e (subst (λ xs. IsIn xs e) is m)
  refused_happens n s c why es may (inr (memory, inl is)) e m = absurd (subst (λ xs. IsIn xs e) is m)
  refused_happens n s c why es may (inr (memory, inr (a, is))) e m = replied_happens n s c a may e (subst (λ xs. IsIn xs e) is m)

  module _ (s : ℕ) (own : Assignment) (given : IsGiven place y s own) (covers : IsTrue (is_covering s only)) where
    begins : MayAskOver place y only y s (call.Begin own.tenure)
    begins = (refl, covers, (given.shard, given.there, Any-from_IsIn (λ (a : Assignment). (a.node ≡ y) × (a.tenure ≡ own.tenure)) given.shard own given.among (given.to_node, refl)))

    begun_happens : (a : StepReply) (e : Event) → IsIn (replied y s (call.Begin own.tenure) a) e → Happens e
    begun_happens a e m = replied_happens y s (call.Begin own.tenure) a begins e m

    module _ (joins : own.state ≡ Initializing) where
      over : (q : ℕ) → IsIn (former given.shard) q → IsStreamedOver place y only q s own.tenure
      over q m = record { covers = covers; shard = given.shard; there = given.there; is_former = m; joining = own; joins = given.among; to_node = given.to_node; is_joining = joins; tenure_is = refl }

      module _ (q : ℕ) (of : IsIn (former given.shard) q) where
        handed_happens : (h : Handed) (e : Event) → IsIn (handed_over s q y h) e → Happens e
        handed_happens h e m = elim (IsIn-append_cases (replied q s (call.Page h.from) (reply.Paged h.page)) (replied y s (call.Merge h.page) (reply.Count h.count)) e m) as (λ _. Happens e) [
          | inl gave ↦ replied_happens q s (call.Page h.from) (reply.Paged h.page) (own.tenure, over q of) e gave
          | inr merged ↦ replied_happens y s (call.Merge h.page) (reply.Count h.count) (refl, covers) e merged
        ]

        fenced_happens : (pages : List Handed) (e : Event) → IsIn (fenced_pages s q y own.tenure pages) e → Happens e
        fenced_happens pages e m = elim (IsIn-append_cases (replied q s (call.Fence own.tenure) reply.Done) (flat_map (handed_over s q y) pages) e m) as (λ _. Happens e) [
          | inl fenced ↦ replied_happens q s (call.Fence own.tenure) reply.Done (over q of) e fenced
          | inr gave ↦ (let h = IsIn-flat_map (handed_over s q y) pages e gave in handed_happens h.0 e h.2)
        ]

        whole_happens : (es : List Event) → IsWhole s q y own.tenure es → (e : Event) → IsIn es e → Happens e
        whole_happens es h e m = fenced_happens h.pages e (subst (λ xs. IsIn xs e) h.are m)

        broken_happens : (why : Reason) (es : List Event) → IsBroken s q y own.tenure why es → (e : Event) → IsIn es e → Happens e
        broken_happens why es (inl fence) e m = refused_happens q s (call.Fence own.tenure) why es (over q of) fence e m
        broken_happens why es (inr page) e m = elim (IsIn-append_cases (fenced_pages s q y own.tenure page.pages) page.last e (subst (λ xs. IsIn xs e) page.are m)) as (λ _. Happens e) [
          | inl before ↦ fenced_happens page.pages e before
          | inr last ↦ refused_happens q s (call.Page page.next) why page.last (own.tenure, over q of) page.refused e last
        ]

        merge_happens : (why : Reason) (es : List Event) → IsMergeRefused s q y own.tenure why es → (e : Event) → IsIn es e → Happens e
        merge_happens why es h e m =
            elim (IsIn-append_cases (fenced_pages s q y own.tenure h.pages) (replied q s (call.Page h.next) (reply.Paged h.page) ++ h.last) e (subst (λ xs. IsIn xs e) h.are m)) as (λ _. Happens e) [
              | inl before ↦ fenced_happens h.pages e before
              | inr behind ↦ elim (IsIn-append_cases (replied q s (call.Page h.next) (reply.Paged h.page)) h.last e behind) as (λ _. Happens e) [
                | inl gave ↦ replied_happens q s (call.Page h.next) (reply.Paged h.page) (own.tenure, over q of) e gave
                | inr last ↦ refused_happens y s (call.Merge h.page) why h.last (refl, covers) h.refused e last
              ]
            ]

      part_happens : (q : ℕ) → IsIn (former given.shard) q → (es : List Event) → IsPartOfStream s q y own.tenure es → (e : Event) → IsIn es e → Happens e
      part_happens q of es h e m = elim h.are as (λ _. Happens e) [
        | inl is ↦ fenced_happens q of h.pages e (subst (λ xs. IsIn xs e) is m)
        | inr more ↦ elim (IsIn-append_cases (fenced_pages s q y own.tenure h.pages) (replied q s (call.Page h.next) (reply.Paged more.0)) e (subst (λ xs. IsIn xs e) more.1 m)) as (λ _. Happens e) [
          | inl before ↦ fenced_happens q of h.pages e before
          | inr gave ↦ replied_happens q s (call.Page h.next) (reply.Paged more.0) (own.tenure, over q of) e gave
        ]
      ]

      peer_happens : (p : AskedPeer) → IsIn (former given.shard) p.node → (why : Option Reason) → MatchOption why (IsWhole s p.node y own.tenure p.added) (λ w. IsBroken s p.node y own.tenure w p.added) → (e : Event) → IsIn p.added e → Happens e
      peer_happens p of None h e m = whole_happens p.node of p.added h e m
      peer_happens p of (Some why) h e m = broken_happens p.node of why p.added h e m

      peers_happen : (peers : List AskedPeer) (left : List ℕ) → AreAsked place s given.shard y own.tenure peers left → (e : Event) → IsIn (flat_map (λ (p : AskedPeer). p.added) peers) e → Happens e
      peers_happen peers left h e m =
          let p = IsIn-flat_map (λ (p : AskedPeer). p.added) peers e m in
          let among = IsIn-append_left (map (λ (x : AskedPeer). x.node) peers) left (p.0).node (map-IsIn (λ (x : AskedPeer). x.node) peers p.0 p.1) in
          peer_happens p.0 ((h.are_former (p.0).node).0 among) (p.0).why (h.each p.0 p.1) e p.2

      broken_off_happens : (why : Reason) (es : List Event) → IsBrokenOff place s given.shard y own.tenure why es → (e : Event) → IsIn es e → Happens e
      broken_off_happens why es h e m = elim (IsIn-append_cases (flat_map (λ (p : AskedPeer). p.added) h.peers) h.last e (subst (λ xs. IsIn xs e) h.are m)) as (λ _. Happens e) [
        | inl before ↦ peers_happen h.peers (h.peer ∷ h.left) h.asked e before
        | inr last ↦ (
            let here = ((h.asked).are_former h.peer).0 (in_middle (map (λ (x : AskedPeer). x.node) h.peers) h.peer h.left) in
            merge_happens h.peer here why h.last h.refused e last
            )
      ]

  -- ---- shards

  breaks_happens : (s : ℕ) (own : Assignment) (given : IsGiven place y s own) (why : Reason) (es : List Event) → IsTrue (is_covering s only) → BreaksOff place s y own given why es → (e : Event) → IsIn es e → Happens e
  breaks_happens s own given why es covers h e m = elim (IsIn-append_cases (replied y s (call.Begin own.tenure) (reply.Began h.fence h.points)) h.streamed e (subst (λ xs. IsIn xs e) h.are m)) as (λ _. Happens e) [
    | inl first ↦ begun_happens s own given covers (reply.Began h.fence h.points) e first
    | inr later ↦ broken_off_happens s own given covers h.joins why h.streamed h.broken e later
  ]

  stays_happens : (s : ℕ) (es : List Event) → IsTrue (is_covering s only) → StaysAsItWas place s y es → (e : Event) → IsIn es e → Happens e
  stays_happens s es covers h e m = elim h.so as (λ _. Happens e) [
    | inl passed ↦ begun_happens s h.own h.given covers (reply.Refused passed.why) e (subst (λ xs. IsIn xs e) passed.are m)
    | inr other ↦ elim other as (λ _. Happens e) [
      | inl alone ↦ begun_happens s h.own h.given covers (reply.Began alone.fence alone.points) e (subst (λ xs. IsIn xs e) alone.are m)
      | inr broken ↦ breaks_happens s h.own h.given broken.0 es covers broken.2 e m
    ]
  ]

  joined_happens : (s : ℕ) (j : Join) (es : List Event) → IsTrue (is_covering s only) → HasJoinedBy place s y j es → (e : Event) → IsIn es e → Happens e
  joined_happens s j es covers h e m = elim (IsIn-append_cases (replied y s (call.Begin (h.joining).tenure) (reply.Began h.fence h.points)) (flat_map (λ (p : AskedPeer). p.added) h.peers) e (subst (λ xs. IsIn xs e) h.are m)) as (λ _. Happens e) [
    | inl first ↦ begun_happens s h.joining h.given covers (reply.Began h.fence h.points) e first
    | inr later ↦ peers_happen s h.joining h.given covers (h.joins).0 h.peers h.left h.asked e later
  ]

  opened_happens : (o : Opened) → IsTrue (is_covering o.shard only) → IsOpened place y o → (e : Event) → IsIn o.added e → Happens e
  opened_happens o covers h e m = by o.joined h
    where
      by : (j : Option Join) → MatchOption j (StaysAsItWas place o.shard y o.added) (λ k. HasJoinedBy place o.shard y k o.added) → Happens e
      by None stays = stays_happens o.shard o.added covers stays e m
      by (Some j) joined = joined_happens o.shard j o.added covers joined e m

  pub all_happen : (opened : List Opened) (left : List ℕ) → AreOpened place y only opened left → (e : Event) → IsIn (added_by opened) e → Happens e
  all_happen opened left h e m =
      let o = IsIn-flat_map (λ (x : Opened). x.added) opened e m in
      let among = IsIn-append_left (map (λ (x : Opened). x.shard) opened) left (o.0).shard (map-IsIn (λ (x : Opened). x.shard) opened o.0 o.1) in
      opened_happens o.0 (((h.are (o.0).shard).0 among).0) (h.each o.0 o.1) e o.2

  pub held_happens : (s : ℕ) (why : Reason) (es : List Event) → IsTrue (is_covering s only) → IsHeldUp place s y why es → (e : Event) → IsIn es e → Happens e
  held_happens s why es covers h e m = elim h.so as (λ _. Happens e) [
    | inl refused ↦ refused_happens y s (call.Begin (h.own).tenure) why es (begins s h.own h.given covers) refused e m
    | inr broken ↦ breaks_happens s h.own h.given why es covers broken e m
  ]

  pub missed_happens : (s : ℕ) (peers : List AskedPeer) (es : List Event) → IsTrue (is_covering s only) → MissesPeers place s y peers es → (e : Event) → IsIn es e → Happens e
  missed_happens s peers es covers h e m = elim (IsIn-append_cases (replied y s (call.Begin (h.joining).tenure) (reply.Began h.fence h.points)) (flat_map (λ (p : AskedPeer). p.added) peers) e (subst (λ xs. IsIn xs e) h.are m)) as (λ _. Happens e) [
    | inl first ↦ begun_happens s h.joining h.given covers (reply.Began h.fence h.points) e first
    | inr later ↦ peers_happen s h.joining h.given covers h.is_joining peers [] h.asked e later
  ]

  pub short_happens : (s : ℕ) (es : List Event) → IsTrue (is_covering s only) → StopsShort place s y es → (e : Event) → IsIn es e → Happens e
  short_happens s es covers h e m = elim (IsIn-append_cases (replied y s (call.Begin (h.joining).tenure) (reply.Began h.fence h.points)) (flat_map (λ (p : AskedPeer). p.added) h.peers ++ h.last) e (subst (λ xs. IsIn xs e) h.are m)) as (λ _. Happens e) [
    | inl first ↦ begun_happens s h.joining h.given covers (reply.Began h.fence h.points) e first
    | inr later ↦ elim (IsIn-append_cases (flat_map (λ (p : AskedPeer). p.added) h.peers) h.last e later) as (λ _. Happens e) [
      | inl before ↦ peers_happen s h.joining h.given covers h.is_joining h.peers h.left h.asked e before
      | inr last ↦ elim h.part as (λ _. Happens e) [
        | inl none ↦ absurd (subst (λ xs. IsIn xs e) none last)
        | inr part ↦ (
            let former_one = ((h.asked).are_former part.0).0 (subst (λ ls. IsIn (map (λ (x : AskedPeer). x.node) h.peers ++ ls) part.0) (sym part.2) (in_middle (map (λ (x : AskedPeer). x.node) h.peers) part.0 part.1)) in
            part_happens s h.joining h.given covers h.is_joining part.0 former_one h.last part.3 e last
            )
      ]
    ]
  ]

  -- ---- lines that make no placement

  -- a shard that ends it is one that is asked for
  pub ends_covered : (opened : List Opened) (s : ℕ) (left : List ℕ) → AreOpened place y only opened (s ∷ left) → IsTrue (is_covering s only)
  ends_covered opened s left h = ((h.are s).0 (in_middle (map (λ (o : Opened). o.shard) opened) s left)).0

  pub held_each : (s : ℕ) (why : Reason) (more : List Event) → AddsHeldUp place y only s why more → (e : Event) → IsIn more e → Happens e
  held_each s why more h e m = elim (IsIn-append_cases (added_by h.opened) h.last e (subst (λ xs. IsIn xs e) h.adds m)) as (λ _. Happens e) [
    | inl before ↦ all_happen h.opened (s ∷ h.left) h.before e before
    | inr last ↦ held_happens s why h.last (ends_covered h.opened s h.left h.before) h.held e last
  ]

  pub missed_each : (s : ℕ) (peers : List AskedPeer) (more : List Event) → AddsMissed place y only s peers more → (e : Event) → IsIn more e → Happens e
  missed_each s peers more h e m = elim (IsIn-append_cases (added_by h.opened) h.last e (subst (λ xs. IsIn xs e) h.adds m)) as (λ _. Happens e) [
    | inl before ↦ all_happen h.opened (s ∷ h.left) h.before e before
    | inr last ↦ missed_happens s peers h.last (ends_covered h.opened s h.left h.before) h.misses e last
  ]

  pub part_each : (more : List Event) → AddsPart place y only more → (e : Event) → IsIn more e → Happens e
  part_each more h e m = elim (IsIn-append_cases (added_by h.opened) h.last e (subst (λ xs. IsIn xs e) h.adds m)) as (λ _. Happens e) [
    | inl before ↦ all_happen h.opened h.left h.before e before
    | inr last ↦ elim h.part as (λ _. Happens e) [
      | inl none ↦ absurd (subst (λ xs. IsIn xs e) none last)
      | inr short ↦ short_happens short.0 h.last (ends_covered h.opened short.0 short.1 (subst (AreOpened place y only h.opened) short.2 h.before)) short.3 e last
    ]
  ]

  pub unmarked_each : (kept : ℕ) (more : List Event) → AddsUnmarked place y only kept more → (e : Event) → IsIn more e → Happens e
  unmarked_each kept more h e m = all_happen h.opened [] h.all e (subst (λ xs. IsIn xs e) h.adds m)
