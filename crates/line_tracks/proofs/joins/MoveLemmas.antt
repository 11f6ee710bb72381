-- A cluster that stands stands after a bootstrap that ended moves.
use Rattle.std.proofs.Common.{◌≡◌, ◌<◌, ◌≤◌, ◌∙◌, ℕ, List, [], ◌∷◌, ◌++◌, length, refl, sym, ap, subst, inl, inr, arith, Bool, true, false}
use Rattle.std.specs.Prelude.{◌⊎◌, Option, Some, None, MatchOption, slice_get, if◌then◌else◌, nat_eq, not}
use Rattle.std.specs.List.{Any}
use Rattle.std.proofs.lemmas.Bool.{cases_lt}
use Rattle.m3_model.specs.Members.{IsIn}
use Rattle.m3_model.specs.declared.act.Act.{Act}
use Rattle.m3_model.specs.declared.act.Act.TheVariants as act
use Rattle.m3_model.specs.declared.answer.Answer.{Answer}
use Rattle.m3_model.specs.declared.answer.Answer.TheVariants as answer
use Rattle.m3_model.specs.declared.placement.Assignment.{Assignment}
use Rattle.m3_model.specs.declared.placement.Instance.{Instance}
use Rattle.m3_model.specs.declared.placement.Placement.{Placement}
use Rattle.m3_model.specs.declared.placement.ShardState.{ShardState}
use Rattle.m3_model.specs.declared.placement.ShardState.TheVariants.{Available}
use Rattle.m3_model.specs.declared.rules.MetaState.{MetaState}
use Rattle.m3_model.specs.declared.turn.Turn.{Turn}
use Rattle.m3_model.proofs.Lists.{IsIn-filter}
use Rattle.m3_model.proofs.MemberLemmas.{IsIn-append_cases, IsIn-map, map-IsIn}
use Rattle.m3_outside.specs.DiskState.{DiskState}
use Rattle.m3_outside.specs.declared.disk.Disk.{Ghosts}
use Rattle.placement_core.specs.Shards.{Shard, nodes_of, shard_at}
use Rattle.placement_core.specs.Steps.{Ends, KeepsNames, done_at, settled, turned, without}
use Rattle.placement_core.proofs.ListLemmas.{IsIn-from_Any, same_at}
use Rattle.placement_plan.specs.Plans.{EndsAsNamed, IsAvailable}
use Rattle.cluster_core.specs.Earlier.{GivesTenure, HasTenure}
use Rattle.cluster_core.specs.Lists.{At}
use Rattle.cluster_core.specs.declared.event.Event.{Event}
use Rattle.cluster_core.specs.declared.event.Event.TheVariants as event
use Rattle.cluster_core.proofs.ExtendLemmas.{any_more}
use Rattle.cluster_core.proofs.ListLemmas.{at_any, at_some, at_within}
use Rattle.node_calls.specs.replica_exchange.declared.slot.Slot.{Slot}
use Rattle.node_calls.specs.session_net.Ready.{IsCallable, IsReady, Places}
use Rattle.node_calls.specs.session_net.Runs.{Ran, slot_at}
use Rattle.told_runs.specs.told_by.Hears.{HasReplica, IsNamedBy}
use Rattle.told_runs.proofs.told_by_proofs.LeaveLemmas.{place_there}
use Rattle.told_runs.proofs.told_by_proofs.LineLemmas.{at_front}
use Rattle.told_runs.proofs.told_by_proofs.OneLemmas.{among_back}
use Rattle.told_runs.proofs.told_causes_proofs.WaitLemmas.{shard_is}
use Rattle.transcripts.specs.Fates.{fate_in}
use Rattle.transcripts.specs.Record.{line_of}
use Rattle.line_tracks.specs.calls.Left.{AreSlots, AreStoppedBy, FareAsSet, HoldsBack, NetIsLeftBy}
use Rattle.line_tracks.proofs.calls.KeepLemmas.{holds_on, rules_next, seed_next}
use Rattle.node_calls.specs.cluster_members.Kept.{IsKept, PastServes}
use Rattle.node_calls.specs.cluster_members.declared.members.Members.{Members}
use Rattle.line_tracks.specs.acts.Stands.{AreKept, ClusterStands, HasSlots, KnowsNodes, PlacesAreKept}
use Rattle.line_tracks.proofs.acts.GrowLemmas.{replica_parts}
use Rattle.line_tracks.proofs.acts.KnownLemmas.{fates_kept, known_next, known_on}
use Rattle.line_tracks.proofs.acts.QuietLemmas.{slots_on, stops_next}
use Rattle.line_tracks.proofs.acts.NextLemmas.{in_past, kept_then, past_has, place_then}
use Rattle.line_tracks.proofs.joins.CameLemmas.{came_there}

-- ---- who has a shard

-- the node is unchanged where an assignment turns
turned_node : (gone : ℕ) (a : Assignment) (state : ShardState) → (turned gone state a).node ≡ a.node
turned_node gone a state = by (nat_eq a.node gone)
  where
    by : (t : Bool) → (if t then record a { state = state; source = None } else a).node ≡ a.node
    by true = refl
    by false = refl

-- where a move ends, who has the shard had it
settled_had : (gone stays : ℕ) (shard : Shard) (n : ℕ) → IsIn (nodes_of (settled gone stays shard)) n → IsIn (nodes_of shard) n
settled_had gone stays shard n m =
    let one = IsIn-map (λ (x : Assignment). x.node) (settled gone stays shard) n m in
    let from = IsIn-map (turned stays Available) (without gone shard) one.0 one.1 in
    let among = IsIn-filter (λ (x : Assignment). not (nat_eq x.node gone)) shard from.0 from.1 in
    subst (IsIn (nodes_of shard)) (sym (turned_node stays from.0 Available) ∙ ap (λ (x : Assignment). x.node) from.2 ∙ one.2) (map-IsIn (λ (x : Assignment). x.node) shard from.0 among)

-- who has a shard in the placement in which moves are over had it in the one before
had_before : (place next : Placement) (done : List (ℕ × ℕ)) → IsAvailable place done next → (n s : ℕ) (shard : Shard) → At next.shards s shard → IsIn (nodes_of shard) n → IsIn (nodes_of (shard_at place s)) n
had_before place next done available n s shard at m =
    let shards = (available.follows).shards in
    let low = at_within next.shards s shard at in
    let before = at_some place.shards s (let count = shards.count in omega (arith, low, count)) in
    let made : EndsAsNamed done s before.0 shard = shards.each s before.0 shard before.1 at in
    subst (λ x. IsIn (nodes_of x) n) (sym (shard_is place.shards s before.0 before.1)) (by (done_at s done) before.0 made)
  where
    by : (o : Option ℕ) (a : Shard) → MatchOption o (shard ≡ a) (λ to. Ends a shard to) → IsIn (nodes_of a) n
    by None a same = subst (λ x. IsIn (nodes_of x) n) same m
    by (Some to) a ends = let e = ends.2 in settled_had e.from to a n (subst (λ x. IsIn (nodes_of x) n) e.next_is m)

-- ---- one line on

module _ {D : Type 0} {G : Ghosts D} (state : D → DiskState) (old new : Members D G) (start : Option MetaState) (turns : List Turn) (stands : ClusterStands start turns old) (name : List ℕ) (asked : Option ℕ) (available : List (ℕ × List ℕ)) (next : Placement) (done : List (ℕ × ℕ)) (ends : IsAvailable old.net.state.place done next)
    (more : List Event) (ran : Ran state old.net.replicas more new.net.replicas) (came : (shown : Placement) (of : List (ℕ × ℕ)) → IsIn more (event.Place shown of) → shown ≡ next) (state_is : new.net.state ≡ record old.net.state { place = next }) (past_is : new.past.items ≡ old.past.items ++ old.net.state.place ∷ [])
    (fates_are : new.net.fates ≡ old.net.fates) (bag_is : new.net.bag ≡ old.net.bag) (slots_are : new.slots.items ≡ old.slots.items) (stopped_are : new.stopped.items ≡ old.stopped.items) (ready : IsReady new.net.state new.net.replicas new.net.bag) where
  abbrev place : Placement
  place = old.net.state.place

  abbrev a : Act
  a = act.Bootstrap name asked

  abbrev b : Answer
  b = answer.Available available next next.version

  abbrev longer : List Turn
  longer = turns ++ line_of a b ∷ []

  abbrev events : List Event
  events = old.net.replicas.events

  abbrev whole : List Event
  whole = new.net.replicas.events

  same_place : new.net.state.place ≡ next
  same_place = ap (λ (s : MetaState). s.place) state_is

  -- its nodes are those that there were
  own_at : (n : ℕ) (own : Instance) → slice_get next.instances n ≡ Some own → slice_get place.instances n ≡ Some own
  own_at n own at = ap (λ xs. slice_get xs n) (sym ends.instances) ∙ at

  -- a Place of the list is of a placement that was kept, or of the next one
  of_place : (p : Placement) (of : List (ℕ × ℕ)) → IsIn whole (event.Place p of) → IsKept place old.past.items p ⊎ (p ≡ next)
  of_place p of i = elim (IsIn-append_cases events more (event.Place p of) (subst (λ es. IsIn es (event.Place p of)) ran.grew i)) as (λ _. IsKept place old.past.items p ⊎ (p ≡ next)) [
    | inl before ↦ inl (stands.placed p of before)
    | inr here ↦ inr (came p of here)
  ]

  -- ---- slots

  now_in : (s : Slot) → IsIn old.slots.items s → IsIn new.slots.items s
  now_in s i = subst (λ xs. IsIn xs s) (sym slots_are) i

  was_in : (s : Slot) → IsIn new.slots.items s → IsIn old.slots.items s
  was_in s i = subst (λ xs. IsIn xs s) slots_are i

  given_here : (n s tenure : ℕ) (e : Event) → IsIn more e → GivesTenure n s tenure e → IsIn old.slots.items (slot_at n s)
  given_here n s tenure (event.Place p of) i gives =
      let at = subst (λ (q : Placement). At q.shards s gives.0) (came p of i) gives.1 in
      let one = IsIn-from_Any (λ (x : Assignment). (x.node ≡ n) × (x.tenure ≡ tenure)) gives.0 gives.2 in
      let among = subst (IsIn (nodes_of gives.0)) one.2.0 (map-IsIn (λ (x : Assignment). x.node) gives.0 one.0 one.1) in
      stands.slots.are.all (slot_at n s) (stands.ready.there n s (had_before place next done ends n s gives.0 at among))
  given_here n s tenure e i gives = absurd gives

  all_slots : (n s : ℕ) → HasReplica whole n s → IsIn new.slots.items (slot_at n s)
  all_slots n s has = elim (replica_parts events more n s (subst (λ es. HasReplica es n s) ran.grew has)) as (λ _. IsIn new.slots.items (slot_at n s)) [
    | inl before ↦ now_in (slot_at n s) (stands.slots.all n s before)
    | inr here ↦ elim here as (λ _. IsIn new.slots.items (slot_at n s)) [
      | inl given ↦ now_in (slot_at n s) (given_here n s given.0 given.1 given.2 given.3)
      | inr stepped ↦ now_in (slot_at n s) (stands.slots.are.all (slot_at n s) (λ none. came_there state old.net.replicas new.net.replicas more ran n s stepped.0 stepped.1 stepped.2 none))
    ]
  ]

  slots_then : HasSlots new
  slots_then = record {
    are = subst (λ xs. AreSlots xs new.net.replicas) (sym slots_are) (slots_on state old.slots.items old.net.replicas new.net.replicas more ran stands.slots.are);
    given = λ s i. let given = stands.slots.given s (was_in s i) in (given.0, subst (λ es. HasTenure es s.node s.shard given.0) (sym ran.grew) (any_more (GivesTenure s.node s.shard given.0) events more given.1));
    all = all_slots;
    placed = λ s i. subst (λ (p : Placement). s.node < length p.instances) (sym same_place) (subst (λ xs. s.node < length xs) (sym ends.instances) (stands.slots.placed s (was_in s i)));
  }

  -- ---- placements

  no_fewer : length place.instances ≤ length next.instances
  no_fewer = subst (λ xs. length place.instances ≤ length xs) (sym ends.instances) (omega arith)

  kept_next : AreKept start longer next new.past.items
  kept_next = kept_then start turns old new stands a b next refl (ends.follows).version past_is no_fewer

  -- calls may go by the one that stood, as by those before it
  callable_before : (q : Placement) → IsKept place old.past.items q → IsCallable (record old.net.state { place = q }) old.net.replicas old.net.bag
  callable_before q (inl is) =
      subst (λ (p : Placement). IsCallable (record old.net.state { place = p }) old.net.replicas old.net.bag) (sym is) (record {
        clock = stands.ready.clock;
        place = (let there = place_there events place stands.ready.place in at_any (Places place) events there.0 (event.Place place there.1) there.2 refl);
        lawful = stands.ready.lawful;
        there = stands.ready.there;
        late = stands.ready.late;
      })
  callable_before q (inr i) = stands.serves q i

  serves_then : PastServes new
  serves_then q i =
      let was = callable_before q (in_past start turns old new stands a b next refl (ends.follows).version past_is q i) in
      record {
        clock = ready.clock;
        place = subst (λ es. Any (Places q) es) (sym ran.grew) (any_more (Places q) events more was.place);
        lawful = was.lawful;
        there = λ n s m. slots_then.are.there (slot_at n s) (now_in (slot_at n s) (stands.slots.are.all (slot_at n s) (was.there n s m)));
        late = ready.late;
      }

  placed_then : PlacesAreKept new
  placed_then p of i = subst (λ (q : Placement). IsKept q new.past.items p) (sym same_place) (elim (of_place p of i) as (λ _. IsKept next new.past.items p) [ inl before ↦ inr (past_has start turns old new stands a b next refl (ends.follows).version past_is p before) | inr is ↦ inl is ])

  -- ---- nodes

  names_stay : KeepsNames place.instances next.instances
  names_stay position own at = (own, ap (λ xs. slice_get xs position) ends.instances ∙ at, refl)

  named_then : (n : ℕ) (own : Instance) → slice_get next.instances n ≡ Some own → IsNamedBy whole n own.name
  named_then n own at i p of other there is =
      elim (cases_lt i (length events)) as (λ _. other.name ≡ own.name) [
        | inl lt ↦ stands.named n own (own_at n own at) i p of other (at_front events more i (event.Place p of) (subst (λ es. At es i (event.Place p of)) ran.grew there) lt) is
        | inr ge ↦ (
            let next_is = came p of (among_back events more i (event.Place p of) (subst (λ es. At es i (event.Place p of)) ran.grew there) ge) in
            ap (λ (x : Instance). x.name) (same_at next.instances n other own (subst (λ (q : Placement). slice_get q.instances n ≡ Some other) next_is is) at)
            )
      ]

  stopped_then : AreStoppedBy longer next new.stopped.items
  stopped_then n own at = ap (λ (xs : List Bool). slice_get xs n) stopped_are ∙ stands.stopped n own (own_at n own at) ∙ ap Some (sym (stops_next turns a b own.name))

  known_then : KnowsNodes longer next old.net.fates
  known_then = known_next longer place next old.net.fates names_stay no_fewer (known_on turns a b place old.net.fates refl (λ own x. refl) stands.known)

  -- ---- the fields

  fare_then : FareAsSet longer next old.net.fates
  fare_then client call n own at = stands.left.fates client call n own (own_at n own at) ∙ ap (λ list. fate_in list client call own.name) (sym (fates_kept turns a b refl))

  left_then : NetIsLeftBy start longer new.net
  left_then = record {
    rules = rules_next start turns a b ∙ stands.left.rules ∙ sym (ap (λ (s : MetaState). s.rules) state_is);
    place = place_then start turns old new stands a b next refl (ends.follows).version past_is ∙ ap Some (sym same_place);
    seed = seed_next start turns a b ∙ stands.left.seed ∙ sym (ap (λ (s : MetaState). s.seed) state_is);
    fates = subst (λ (p : Placement). FareAsSet longer p new.net.fates) (sym same_place) (subst (FareAsSet longer next) (sym fates_are) fare_then);
    late = subst (HoldsBack start longer) (sym bag_is) (holds_on start turns a b refl old.net.bag stands.left.late);
  }

  pub moved_stands : ClusterStands start longer new
  moved_stands = record {
    left = left_then;
    ready = ready;
    kept = subst (λ (p : Placement). AreKept start longer p new.past.items) (sym same_place) kept_next;
    serves = serves_then;
    placed = placed_then;
    known = subst (λ (p : Placement). KnowsNodes longer p new.net.fates) (sym same_place) (subst (KnowsNodes longer next) (sym fates_are) known_then);
    slots = slots_then;
    named = subst (λ (p : Placement). (n : ℕ) (own : Instance) → slice_get p.instances n ≡ Some own → IsNamedBy whole n own.name) (sym same_place) named_then;
    stopped = subst (λ (p : Placement). AreStoppedBy longer p new.stopped.items) (sym same_place) stopped_then;
  }
