-- What is so of each event that a bootstrap adds, as it is of each call and of its answer.
use Rattle.std.proofs.Common.{◌≡◌, ℕ, List, [], ◌∷◌, ◌++◌, sym, subst, inl, inr}
use Rattle.std.specs.Prelude.{◌⊎◌, Option, Some, None, MatchOption, Result, Ok, Err}
use Rattle.std.specs.List.{flat_map}
use Rattle.m3_model.specs.Members.{IsIn}
use Rattle.m3_model.specs.declared.placement.Assignment.{Assignment}
use Rattle.m3_model.specs.declared.placement.Placement.{Placement}
use Rattle.m3_model.specs.declared.point.Key.{Key}
use Rattle.m3_model.specs.declared.point.Page.{Page}
use Rattle.m3_model.specs.declared.reason.Reason.{Reason}
use Rattle.m3_model.proofs.Lists.{IsIn-flat_map}
use Rattle.m3_model.proofs.MemberLemmas.{IsIn-append_cases}
use Rattle.placement_core.specs.Shards.{Shard}
use Rattle.cluster_core.specs.declared.event.Event.{Event}
use Rattle.cluster_core.specs.declared.event.StepCall.{StepCall}
use Rattle.cluster_core.specs.declared.event.StepCall.TheVariants as call
use Rattle.cluster_core.specs.declared.event.StepReply.{StepReply}
use Rattle.cluster_core.specs.declared.event.StepReply.TheVariants as reply
use Rattle.session_net.specs.m3_outside.DiskState.{DiskState}
use Rattle.session_net.specs.replica_calls.Calls.{Tracked}
use Rattle.session_net.specs.Runs.{Ran}
use Rattle.peer_streams.specs.Joins.{AreAsked, AskedPeer, BreaksOff, HasJoinedBy, IsBrokenOff, IsGiven, IsHeldUp, IsOpened, Join, MissesPeers, Opened, StaysAsItWas, StopsShort, begun_with}
use Rattle.peer_streams.specs.Streams.{Handed, IsBroken, IsMergeRefused, IsPartOfStream, IsRefusedCall, IsWhole, fenced_pages, handed_over, replied}
use Rattle.peer_boot.specs.Merges.{MergedOf}
use Rattle.peer_boot.specs.Tries.{IsJoinTried, asked_events}
use Rattle.peer_boot.specs.declared.boot_err.BootErr.{BootErr}
use Rattle.peer_boot.specs.declared.boot_err.BootErr.TheVariants as boot_err

abbrev pub Each : (Event → Type 0) → List Event → Type 0
Each P events = (e : Event) → IsIn events e → P e

module _ (P : Event → Type 0) where
  pub each_none : Each P []
  each_none e m = absurd m

  pub each_both : (xs ys : List Event) → Each P xs → Each P ys → Each P (xs ++ ys)
  each_both xs ys px py e m = elim (IsIn-append_cases xs ys e m) as (λ _. P e) [ inl l ↦ px e l | inr r ↦ py e r ]

  pub each_flat : {X : Type 0} (f : X → List Event) (xs : List X) → ((x : X) → IsIn xs x → Each P (f x)) → Each P (flat_map f xs)
  each_flat f xs each e m = let found = IsIn-flat_map f xs e m in each found.0 found.1 e found.2

module _ (P : Event → Type 0) (Q : StepCall → Type 0) (of_call : (m t : ℕ) (c : StepCall) (a : StepReply) → Q c → Each P (replied m t c a)) (of_fence : (version : ℕ) → Q (call.Fence version)) (of_page : (after : Option Key) → Q (call.Page after)) (of_merge : (page : Page) → Q (call.Merge page)) where
  each_refused : (n s : ℕ) (c : StepCall) (why : Reason) (events : List Event) → Q c → IsRefusedCall n s c why events → Each P events
  each_refused n s c why events q (inl is) = subst (Each P) (sym is) (of_call n s c (reply.Refused why) q)
  each_refused n s c why events q (inr (memory, inl is)) = subst (Each P) (sym is) (each_none P)
  each_refused n s c why events q (inr (memory, inr (a, is))) = subst (Each P) (sym is) (of_call n s c a q)

  -- ---- streams

  module _ (s q y tenure : ℕ) where
    each_handed : (h : Handed) → Each P (handed_over s q y h)
    each_handed h = each_both P (replied q s (call.Page h.from) (reply.Paged h.page)) (replied y s (call.Merge h.page) (reply.Count h.count)) (of_call q s (call.Page h.from) (reply.Paged h.page) (of_page h.from)) (of_call y s (call.Merge h.page) (reply.Count h.count) (of_merge h.page))

    each_fenced : (pages : List Handed) → Each P (fenced_pages s q y tenure pages)
    each_fenced pages = each_both P (replied q s (call.Fence tenure) reply.Done) (flat_map (handed_over s q y) pages) (of_call q s (call.Fence tenure) reply.Done (of_fence tenure)) (each_flat P (handed_over s q y) pages (λ h m. each_handed h))

    each_whole : (events : List Event) → IsWhole s q y tenure events → Each P events
    each_whole events h = subst (Each P) (sym h.are) (each_fenced h.pages)

    each_broken : (why : Reason) (events : List Event) → IsBroken s q y tenure why events → Each P events
    each_broken why events (inl fence) = each_refused q s (call.Fence tenure) why events (of_fence tenure) fence
    each_broken why events (inr h) = subst (Each P) (sym h.are) (each_both P (fenced_pages s q y tenure h.pages) h.last (each_fenced h.pages) (each_refused q s (call.Page h.next) why h.last (of_page h.next) h.refused))

    each_unmerged : (why : Reason) (events : List Event) → IsMergeRefused s q y tenure why events → Each P events
    each_unmerged why events h =
        subst (Each P) (sym h.are) (each_both P (fenced_pages s q y tenure h.pages) (replied q s (call.Page h.next) (reply.Paged h.page) ++ h.last) (each_fenced h.pages)
        (each_both P (replied q s (call.Page h.next) (reply.Paged h.page)) h.last (of_call q s (call.Page h.next) (reply.Paged h.page) (of_page h.next)) (each_refused y s (call.Merge h.page) why h.last (of_merge h.page) h.refused)))

    each_part : (events : List Event) → IsPartOfStream s q y tenure events → Each P events
    each_part events h = elim h.are as (λ _. Each P events) [
      | inl whole ↦ subst (Each P) (sym whole) (each_fenced h.pages)
      | inr more ↦ subst (Each P) (sym more.1) (each_both P (fenced_pages s q y tenure h.pages) (replied q s (call.Page h.next) (reply.Paged more.0)) (each_fenced h.pages) (of_call q s (call.Page h.next) (reply.Paged more.0) (of_page h.next)))
    ]

  -- ---- joins

  module _ (place : Placement) (s : ℕ) (shard : Shard) (y tenure : ℕ) where
    each_asked : (peers : List AskedPeer) (left : List ℕ) → AreAsked place s shard y tenure peers left → Each P (asked_events peers)
    each_asked peers left h = each_flat P (λ (p : AskedPeer). p.added) peers (λ p m. by p p.why (h.each p m))
      where
        by : (p : AskedPeer) (why : Option Reason) → MatchOption why (IsWhole s p.node y tenure p.added) (λ w. IsBroken s p.node y tenure w p.added) → Each P p.added
        by p None whole = each_whole s p.node y tenure p.added whole
        by p (Some why) broken = each_broken s p.node y tenure why p.added broken

    each_broken_off : (why : Reason) (events : List Event) → IsBrokenOff place s shard y tenure why events → Each P events
    each_broken_off why events h = subst (Each P) (sym h.are) (each_both P (asked_events h.peers) h.last (each_asked h.peers (h.peer ∷ h.left) h.asked) (each_unmerged s h.peer y tenure why h.last h.refused))

    each_last : (left : List ℕ) (last : List Event) → (last ≡ []) ⊎ ((q : ℕ) × (later : List ℕ) × (left ≡ q ∷ later) × IsPartOfStream s q y tenure last) → Each P last
    each_last left last (inl nothing) = subst (Each P) (sym nothing) (each_none P)
    each_last left last (inr part) = each_part s part.0 y tenure last part.3

  pub each_tried : {D : Type 0} (state : D → DiskState) (place : Placement) (s y tenure : ℕ) (old new : Tracked D) (result : Result MergedOf BootErr) → IsJoinTried state place s y tenure old new result → (more : List Event) × Ran state old more new × Each P more
  each_tried state place s y tenure old new (Ok merged) h = (asked_events (h.3).peers, (h.3).ran, each_asked place s _ y tenure (h.3).peers (h.3).left (h.3).asked)
  each_tried state place s y tenure old new (Err (boot_err.Peers needed got reasons)) h = (asked_events h.peers, h.ran, each_asked place s _ y tenure h.peers [] h.asked)
  each_tried state place s y tenure old new (Err (boot_err.Own why)) h = (h.events, h.ran, each_broken_off place s _ y tenure why h.events h.broken)
  each_tried state place s y tenure old new (Err boot_err.Full) h = (asked_events h.peers ++ h.last, h.ran, each_both P (asked_events h.peers) h.last (each_asked place s _ y tenure h.peers h.left h.asked) (each_last place s [] y tenure h.left h.last h.part))

  -- ---- replicas of the node

  module _ (of_begin : (tenure : ℕ) → Q (call.Begin tenure)) (place : Placement) (s y : ℕ) where
    each_begun : (tenure : ℕ) (a : StepReply) (events more : List Event) → events ≡ replied y s (call.Begin tenure) a ++ more → Each P more → Each P events
    each_begun tenure a events more is each = subst (Each P) (sym is) (each_both P (replied y s (call.Begin tenure) a) more (of_call y s (call.Begin tenure) a (of_begin tenure)) each)

    each_breaks : (own : Assignment) (given : IsGiven place y s own) (why : Reason) (events : List Event) → BreaksOff place s y own given why events → Each P events
    each_breaks own given why events h = each_begun own.tenure (reply.Began h.fence h.points) events h.streamed h.are (each_broken_off place s given.shard y own.tenure why h.streamed h.broken)

    pub each_stays : (events : List Event) → StaysAsItWas place s y events → Each P events
    each_stays events h = elim h.so as (λ _. Each P events) [
      | inl passed ↦ subst (Each P) (sym passed.are) (of_call y s (call.Begin (h.own).tenure) (reply.Refused passed.why) (of_begin (h.own).tenure))
      | inr (inl alone) ↦ subst (Each P) (sym alone.are) (of_call y s (call.Begin (h.own).tenure) (reply.Began alone.fence alone.points) (of_begin (h.own).tenure))
      | inr (inr breaks) ↦ each_breaks h.own h.given breaks.0 events breaks.2
    ]

    pub each_joined : (j : Join) (events : List Event) → HasJoinedBy place s y j events → Each P events
    each_joined j events h = each_begun (h.joining).tenure (reply.Began h.fence h.points) events (asked_events h.peers) h.are (each_asked place s (h.given).shard y (h.joining).tenure h.peers h.left h.asked)

    pub each_held : (why : Reason) (events : List Event) → IsHeldUp place s y why events → Each P events
    each_held why events h = elim h.so as (λ _. Each P events) [
      | inl refused ↦ each_refused y s (call.Begin (h.own).tenure) why events (of_begin (h.own).tenure) refused
      | inr breaks ↦ each_breaks h.own h.given why events breaks
    ]

    pub each_missed : (peers : List AskedPeer) (events : List Event) → MissesPeers place s y peers events → Each P events
    each_missed peers events h = each_begun (h.joining).tenure (reply.Began h.fence h.points) events (asked_events peers) h.are (each_asked place s (h.given).shard y (h.joining).tenure peers [] h.asked)

    pub each_short : (events : List Event) → StopsShort place s y events → Each P events
    each_short events h = each_begun (h.joining).tenure (reply.Began h.fence h.points) events (asked_events h.peers ++ h.last) h.are (each_both P (asked_events h.peers) h.last (each_asked place s (h.given).shard y (h.joining).tenure h.peers h.left h.asked) (each_last place s (h.given).shard y (h.joining).tenure h.left h.last h.part))

  pub each_opened : (of_begin : (tenure : ℕ) → Q (call.Begin tenure)) (place : Placement) (y : ℕ) (opened : List Opened) → ((o : Opened) → IsIn opened o → IsOpened place y o) → Each P (flat_map (λ (o : Opened). o.added) opened)
  each_opened of_begin place y opened all = each_flat P (λ (o : Opened). o.added) opened (λ o m. by o o.joined (all o m))
    where
      by : (o : Opened) (j : Option Join) → MatchOption j (StaysAsItWas place o.shard y o.added) (λ i. HasJoinedBy place o.shard y i o.added) → Each P o.added
      by o None h = each_stays of_begin place o.shard y o.added h
      by o (Some j) h = each_joined of_begin place o.shard y j o.added h
