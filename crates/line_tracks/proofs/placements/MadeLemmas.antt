-- A cluster that stands stands after a line that made a placement.
use Rattle.std.proofs.Common.{◌≡◌, ◌≢◌, ◌<◌, ◌≤◌, ◌+◌, ◌-◌, ℕ, zero, suc, List, [], ◌∷◌, ◌++◌, length, replicate, refl, sym, ap, subst, ◌∙◌, inl, inr, arith, Bool, true, false}
use Rattle.std.specs.Prelude.{◌⊎◌, Option, Some, None, slice_get}
use Rattle.std.specs.FinMap.{get}
use Rattle.std.proofs.lemmas.Bool.{cases_lt}
use Rattle.m3_model.specs.Members.{IsIn}
use Rattle.m3_model.specs.declared.act.Act.{Act}
use Rattle.m3_model.specs.declared.act.Act.TheVariants as act
use Rattle.m3_model.specs.declared.answer.Answer.{Answer}
use Rattle.m3_model.specs.declared.answer.Answer.TheVariants as answer
use Rattle.m3_model.specs.declared.placement.Assignment.{Assignment}
use Rattle.m3_model.specs.declared.placement.Instance.{Instance}
use Rattle.m3_model.specs.declared.placement.Placement.{Placement}
use Rattle.m3_model.specs.declared.rules.MetaState.{MetaState}
use Rattle.m3_model.specs.declared.rules.Rules.{Rules}
use Rattle.m3_model.specs.declared.turn.Reply.TheVariants as reply
use Rattle.m3_model.specs.declared.turn.Request.TheVariants as request
use Rattle.m3_model.specs.declared.turn.Turn.{Turn}
use Rattle.m3_model.proofs.Lists.{IsIn-flat_map}
use Rattle.m3_model.proofs.MemberLemmas.{IsIn-append_cases, IsIn-append_left, IsIn-append_right}
use Rattle.m3_outside.specs.Depots.{Depot}
use Rattle.m3_outside.specs.DiskState.{DiskState}
use Rattle.m3_outside.specs.declared.disk.Disk.{Ghosts}
use Rattle.net_plan.specs.Fates.{fate_of}
use Rattle.placement_core.proofs.ListLemmas.{Any-from_IsIn, same_at}
use Rattle.told_runs.specs.placement_acts.Acts.{is_step_act}
use Rattle.cluster_core.specs.Earlier.{GivesTenure, HasTenure}
use Rattle.cluster_core.specs.Lists.{At}
use Rattle.cluster_core.specs.declared.event.Event.{Event}
use Rattle.cluster_core.specs.declared.event.Event.TheVariants as event
use Rattle.cluster_core.specs.declared.event.StepCall.{StepCall}
use Rattle.cluster_core.specs.declared.event.StepReply.{StepReply}
use Rattle.cluster_core.proofs.ExtendLemmas.{any_more}
use Rattle.cluster_core.proofs.ListLemmas.{at_any, at_in, at_some, at_within, in_at}
use Rattle.node_calls.specs.replica_exchange.declared.member.Member.{Member}
use Rattle.node_calls.specs.replica_exchange.declared.slot.Slot.{Slot}
use Rattle.node_calls.specs.session_net.Runs.{IsStepped, slot_at, steps_of}
use Rattle.first_cluster.specs.Slots.{slots_of}
use Rattle.first_cluster.proofs.SlotLists.{in_or_out, slot_replica}
use Rattle.told_runs.specs.told_by.Hears.{HasReplica, IsNamedBy}
use Rattle.told_runs.proofs.told_causes_proofs.WaitLemmas.{member_at}
use Rattle.transcripts.specs.Fates.{fate_in, fates_set, is_stopped, numbering_after}
use Rattle.transcripts.specs.Placements.{has_replica, seed_after, seed_by}
use Rattle.transcripts.specs.Record.{inner_turns, line_of}
use Rattle.transcripts.specs.Rules.{rules_after, rules_by, start_rules}
use Rattle.line_tracks.specs.calls.Left.{AreStoppedBy, FareAsSet, HoldsBack, NetIsLeftBy}
use Rattle.line_tracks.proofs.calls.KeepLemmas.{holds_on, rules_next, seed_next}
use Rattle.node_calls.specs.cluster_members.Kept.{IsKept}
use Rattle.node_calls.specs.cluster_members.declared.members.Members.{Members}
use Rattle.node_calls.proofs.cluster_members_proofs.NameLemmas.{same_node}
use Rattle.line_tracks.specs.acts.Quiet.{KeepsStops}
use Rattle.line_tracks.specs.acts.Stands.{AreKept, ClusterStands, HasSlots, IsUnnamed, KnowsNodes, PlacesAreKept}
use Rattle.line_tracks.proofs.acts.GrowLemmas.{replica_parts}
use Rattle.line_tracks.proofs.acts.KnownLemmas.{fates_kept, known_next, known_on}
use Rattle.line_tracks.proofs.acts.QuietLemmas.{stops_next}
use Rattle.line_tracks.proofs.acts.NextLemmas.{few_before, kept_then, past_has, place_then}
use Rattle.line_tracks.proofs.acts.StartLemmas.{given_slot, runs_at}
use Rattle.cluster_placements.specs.Slots.{left_slots, new_slots}
use Rattle.cluster_placements.specs.Steps.{IsPlaced, LeadsOn, MayChange, end_at, step_events}
use Rattle.cluster_placements.proofs.ChangeLemmas.{left_there}
use Rattle.cluster_placements.proofs.OrderLemmas.{in_again, in_before}
use Rattle.cluster_placements.proofs.PlacedLemmas.{is_new, new_placed, no_fewer}

-- ---- tenures

-- a Place gives a tenure to each slot of its placement
pub given_by : (events : List Event) (place : Placement) (i : ℕ) (done : List (ℕ × ℕ)) (n s : ℕ) → At events i (event.Place place done) → has_replica (Some place) s n ≡ true → (tenure : ℕ) × HasTenure events n s tenure
given_by events place i done n s there member =
    let a = member_at place s n member in
    let tenure = (a.assigned).tenure in
    (tenure, at_any (GivesTenure n s tenure) events i (event.Place place done) there (a.shard, a.there, Any-from_IsIn (λ (x : Assignment). (x.node ≡ n) × (x.tenure ≡ tenure)) a.shard a.assigned a.among (a.of_node, refl)))

-- ---- what the answer sets

no_rules : (a : Act) (next : Placement) (x : Rules) → rules_by a (answer.Placed next next.version) x ≡ x
no_rules (act.Now now) next x = refl
no_rules (act.Namespace name block past future retention) next x = refl
no_rules _ next x = refl

no_seed : (a : Act) (next : Placement) (x : ℕ) → is_step_act a ≡ true → seed_by a (answer.Placed next next.version) x ≡ x
no_seed (act.Init rf shards seed nodes) next x step = cc
no_seed _ next x step = refl

no_fates : (a : Act) (next : Placement) → fates_set (request.One a) (reply.One (answer.Placed next next.version)) ≡ None
no_fates (act.Fates list) next = refl
no_fates _ next = refl

no_stops : (a : Act) (next : Placement) → KeepsStops a (answer.Placed next next.version)
no_stops (act.Stop node) next name x = refl
no_stops (act.Restart node pick) next name x = refl
no_stops _ next name x = refl

-- ---- flags

flag_front : (xs ys : List Bool) (i : ℕ) (v : Bool) → slice_get xs i ≡ Some v → slice_get (xs ++ ys) i ≡ Some v
flag_front [] ys i v e = cc
flag_front (x ∷ xs) ys zero v e = e
flag_front (x ∷ xs) ys (suc i) v e = flag_front xs ys i v e

flag_back : (xs : List Bool) (n i : ℕ) → length xs ≤ i → i < length xs + n → slice_get (xs ++ replicate n false) i ≡ Some false
flag_back [] n i high low = runs_at n i (omega (arith, low))
flag_back (x ∷ xs) n zero high low = absurd (omega (arith, high))
flag_back (x ∷ xs) n (suc i) high low = flag_back xs n i (omega (arith, high)) (omega (arith, low))

-- ---- one line on

module _ {D : Type 0} {G : Ghosts D} (state : D → DiskState) (old new : Members D G) (start : Option MetaState) (turns : List Turn) (stands : ClusterStands start turns old) (a : Act) (step : is_step_act a ≡ true) (next : Placement) (kept : ℕ) (leads : LeadsOn old.net.state.place kept a next)
    (depot after : Depot D) (placed : IsPlaced state depot old next after new) (may : MayChange new after.held) where
  abbrev place : Placement
  place = old.net.state.place

  abbrev b : Answer
  b = answer.Placed next next.version

  abbrev longer : List Turn
  longer = turns ++ line_of a b ∷ []

  abbrev events : List Event
  events = old.net.replicas.events

  abbrev whole : List Event
  whole = new.net.replicas.events

  abbrev more : List Event
  more = step_events next (left_slots place next)

  grew : whole ≡ events ++ more
  grew = placed.ran.grew

  more_nodes : length place.instances ≤ length next.instances
  more_nodes = no_fewer place.instances next.instances leads.step.names

  same_place : new.net.state.place ≡ next
  same_place = ap (λ (s : MetaState). s.place) placed.state_is

  -- ---- what came

  end_no_place : (s : Slot) (p : Placement) (done : List (ℕ × ℕ)) → IsIn (end_at s) (event.Place p done) → ⊥
  end_no_place s p done (inl is) = cc
  end_no_place s p done (inr (inl is)) = cc
  end_no_place s p done (inr (inr none)) = none

  end_step : (slot : Slot) (n s : ℕ) (c : StepCall) (r : StepReply) → IsIn (end_at slot) (event.Step n s c r) → slot ≡ slot_at n s
  end_step slot n s c r (inl is) = cc
  end_step slot n s c r (inr (inl is)) = let node : slot.node ≡ n = cc in let shard : slot.shard ≡ s = cc in λ i. record { shard = shard i; node = node i }
  end_step slot n s c r (inr (inr none)) = absurd none

  place_came : (p : Placement) (done : List (ℕ × ℕ)) → IsIn more (event.Place p done) → p ≡ next
  place_came p done (inl is) = cc
  place_came p done (inr (inl is)) = let same : next ≡ p = cc in sym same
  place_came p done (inr (inr i)) = let from = IsIn-flat_map end_at (left_slots place next) (event.Place p done) i in absurd (end_no_place from.0 p done from.2)

  step_came : (n s : ℕ) (c : StepCall) (r : StepReply) → IsIn more (event.Step n s c r) → IsIn (left_slots place next) (slot_at n s)
  step_came n s c r (inl is) = cc
  step_came n s c r (inr (inl is)) = cc
  step_came n s c r (inr (inr i)) =
      let from = IsIn-flat_map end_at (left_slots place next) (event.Step n s c r) i in
      subst (IsIn (left_slots place next)) (end_step from.0 n s c r from.2) from.1

  placed_next : (i : ℕ) × At whole i (event.Place next [])
  placed_next = in_at whole (event.Place next []) (subst (λ es. IsIn es (event.Place next [])) (sym grew) (IsIn-append_right events more (event.Place next []) (inr (inl refl))))

  -- a Place of the list is of a placement that was kept, or of the next one
  of_place : (p : Placement) (done : List (ℕ × ℕ)) → IsIn whole (event.Place p done) → IsKept place old.past.items p ⊎ (p ≡ next)
  of_place p done i = elim (IsIn-append_cases events more (event.Place p done) (subst (λ es. IsIn es (event.Place p done)) grew i)) as (λ _. IsKept place old.past.items p ⊎ (p ≡ next)) [
    | inl before ↦ inl (stands.placed p done before)
    | inr came ↦ inr (place_came p done came)
  ]

  -- ---- slots

  from_old : (s : Slot) → IsIn old.slots.items s → IsIn new.slots.items s
  from_old s i = in_again (old.slots.items ++ new_slots old.net.replicas.members next) new.slots.items placed.fits.slots_are s (IsIn-append_left old.slots.items (new_slots old.net.replicas.members next) s i)

  from_new : (s : Slot) → IsIn (new_slots old.net.replicas.members next) s → IsIn new.slots.items s
  from_new s i = in_again (old.slots.items ++ new_slots old.net.replicas.members next) new.slots.items placed.fits.slots_are s (IsIn-append_right old.slots.items (new_slots old.net.replicas.members next) s i)

  had : (o : Option (Member D)) → (o ≡ None) ⊎ (o ≢ None)
  had None = inl refl
  had (Some x) = inr (λ e. cc)

  from_next : (s : Slot) → IsIn (slots_of next) s → IsIn new.slots.items s
  from_next s i = elim (had (get old.net.replicas.members s)) as (λ _. IsIn new.slots.items s) [
    | inl none ↦ from_new s (is_new old.net.replicas.members next s i none)
    | inr there ↦ from_old s (stands.slots.are.all s there)
  ]

  from_left : (s : Slot) → IsIn (left_slots place next) s → IsIn new.slots.items s
  from_left s i = from_old s (stands.slots.are.all s (left_there old.net.state old.net.replicas old.net.bag next (left_slots place next) stands.ready refl s i))

  gives_came : (n s tenure : ℕ) (e : Event) → IsIn more e → GivesTenure n s tenure e → IsIn new.slots.items (slot_at n s)
  gives_came n s tenure (event.Place p done) i gives = from_next (slot_at n s) (subst (λ (q : Placement). IsIn (slots_of q) (slot_at n s)) (place_came p done i) (given_slot p done n s tenure gives))
  gives_came n s tenure e i gives = absurd gives

  all_slots : (n s : ℕ) → HasReplica whole n s → IsIn new.slots.items (slot_at n s)
  all_slots n s has = elim (replica_parts events more n s (subst (λ es. HasReplica es n s) grew has)) as (λ _. IsIn new.slots.items (slot_at n s)) [
    | inl before ↦ from_old (slot_at n s) (stands.slots.all n s before)
    | inr came ↦ elim came as (λ _. IsIn new.slots.items (slot_at n s)) [
      | inl given ↦ gives_came n s given.0 given.1 given.2 given.3
      | inr stepped ↦ from_left (slot_at n s) (step_came n s stepped.0 stepped.1 stepped.2)
    ]
  ]

  given_one : (s : Slot) → IsIn new.slots.items s → (tenure : ℕ) × HasTenure whole s.node s.shard tenure
  given_one s i =
      elim (IsIn-append_cases old.slots.items (new_slots old.net.replicas.members next) s (in_before (old.slots.items ++ new_slots old.net.replicas.members next) new.slots.items placed.fits.slots_are s i)) as (λ _. (tenure : ℕ) × HasTenure whole s.node s.shard tenure) [
        | inl before ↦ let given = stands.slots.given s before in (given.0, subst (λ es. HasTenure es s.node s.shard given.0) (sym grew) (any_more (GivesTenure s.node s.shard given.0) events more given.1))
        | inr is ↦ given_by whole next placed_next.0 [] s.node s.shard placed_next.1 (slot_replica next s (new_placed old.net.replicas.members next s is))
      ]

  out_of_new : (s : Slot) → get new.net.replicas.members s ≢ None → IsIn new.slots.items s
  out_of_new s there = elim (in_or_out (new_slots old.net.replicas.members next) s) as (λ _. IsIn new.slots.items s) [
    | inl i ↦ from_new s i
    | inr away ↦ from_old s (stands.slots.are.all s (λ none. there (subst (λ (o : Option (Member D)). IsStepped state (steps_of s more) o (get new.net.replicas.members s)) ((placed.gained.others s away).member ∙ none) (placed.ran.stepped s))))
  ]

  slots_then : HasSlots new
  slots_then = record {
    are = record { there = may.manned; all = out_of_new };
    given = given_one;
    all = all_slots;
    placed = may.slots.nodes;
  }

  -- ---- placements

  kept_next : AreKept start longer next new.past.items
  kept_next = kept_then start turns old new stands a b next refl leads.step.version placed.past more_nodes

  -- ---- nodes

  -- a node that the placement before it had keeps its name
  node_before : (n : ℕ) (own : Instance) → slice_get next.instances n ≡ Some own → n < length place.instances → (was : Instance) × (slice_get place.instances n ≡ Some was) × (own.name ≡ was.name)
  node_before n own at low =
      let was = at_some place.instances n low in
      let now = leads.step.names n was.0 was.1 in
      (was.0, was.1, ap (λ (x : Instance). x.name) (same_at next.instances n own now.0 at now.1) ∙ now.2)

  -- and a further one has a name that no node had
  new_name : (n : ℕ) (own : Instance) → slice_get next.instances n ≡ Some own → length place.instances ≤ n → IsUnnamed place own.name
  new_name n own at high m was there called =
      let now = leads.step.names m was there in
      let same = same_node next.instances m n now.0 own leads.lawful.limits.distinct now.1 at (now.2 ∙ called) in
      let low = at_within place.instances m was there in
      omega (arith, high, low, same)

  named_then : (n : ℕ) (own : Instance) → slice_get next.instances n ≡ Some own → IsNamedBy whole n own.name
  named_then n own at i p done other there is = elim (of_place p done (at_in whole i (event.Place p done) there)) as (λ _. other.name ≡ own.name) [
    | inr next_is ↦ ap (λ (x : Instance). x.name) (same_at next.instances n other own (subst (λ (q : Placement). slice_get q.instances n ≡ Some other) next_is is) at)
    | inl before ↦
        (let few = few_before start turns old new stands a b next refl leads.step.version placed.past p before in
        let here = at_within p.instances n other is in
        let was = node_before n own at (omega (arith, few, here)) in
        elim (IsIn-append_cases events more (event.Place p done) (subst (λ es. IsIn es (event.Place p done)) grew (at_in whole i (event.Place p done) there))) as (λ _. other.name ≡ own.name) [
          | inl earlier ↦ let j = in_at events (event.Place p done) earlier in stands.named n was.0 was.1 j.0 p done other j.1 is ∙ sym was.2
          | inr came ↦ ap (λ (x : Instance). x.name) (same_at next.instances n other own (subst (λ (q : Placement). slice_get q.instances n ≡ Some other) (place_came p done came) is) at)
        ])
  ]

  stops_same : (name : List ℕ) → is_stopped (inner_turns longer) name ≡ is_stopped (inner_turns turns) name
  stops_same name = stops_next turns a b name ∙ no_stops a next name (is_stopped (inner_turns turns) name)

  stopped_then : AreStoppedBy longer next new.stopped.items
  stopped_then n own at =
      ap (λ (xs : List Bool). slice_get xs n) placed.fits.stopped_are ∙ elim (cases_lt n (length place.instances)) as (λ _. slice_get (old.stopped.items ++ replicate (length next.instances - length old.stopped.items) false) n ≡ Some (is_stopped (inner_turns longer) own.name)) [
        | inl low ↦
            (let was = node_before n own at low in
            flag_front old.stopped.items (replicate (length next.instances - length old.stopped.items) false) n (is_stopped (inner_turns turns) was.0.name) (stands.stopped n was.0 was.1)
            ∙ ap (λ name. Some (is_stopped (inner_turns turns) name)) (sym was.2) ∙ ap Some (sym (stops_same own.name)))
        | inr high ↦
            (let each = old.one_each in
            let most = at_within next.instances n own at in
            flag_back old.stopped.items (length next.instances - length old.stopped.items) n (omega (arith, each, high)) (omega (arith, each, most, high)) ∙ ap Some (sym (stops_same own.name ∙ stands.known.runs own.name (new_name n own at high))))
      ]

  known_now : KnowsNodes longer next old.net.fates
  known_now = known_next longer place next old.net.fates leads.step.names more_nodes (known_on turns a b place old.net.fates (no_fates a next) (no_stops a next) stands.known)

  -- ---- the fields

  fates_same : (numbering_after 0 longer).fates ≡ (numbering_after 0 turns).fates
  fates_same = fates_kept turns a b (no_fates a next)

  fare_then : FareAsSet longer next old.net.fates
  fare_then client call n own at = elim (cases_lt n (length place.instances)) as (λ _. fate_of old.net.fates (record { client = client; call = call; node = n }) ≡ fate_in (numbering_after 0 longer).fates client call own.name) [
    | inl low ↦
        (let was = node_before n own at low in
        stands.left.fates client call n was.0 was.1 ∙ ap (λ name. fate_in (numbering_after 0 turns).fates client call name) (sym was.2) ∙ ap (λ list. fate_in list client call own.name) (sym fates_same))
    | inr high ↦ stands.known.delivers client call n high ∙ sym (ap (λ list. fate_in list client call own.name) fates_same ∙ stands.known.unset client call own.name (new_name n own at high))
  ]

  left_then : NetIsLeftBy start longer new.net
  left_then = record {
    rules = rules_next start turns a b ∙ no_rules a next (rules_after (start_rules start) (inner_turns turns)) ∙ stands.left.rules ∙ sym (ap (λ (s : MetaState). s.rules) placed.state_is);
    place = place_then start turns old new stands a b next refl leads.step.version placed.past ∙ ap Some (sym same_place);
    seed = seed_next start turns a b ∙ no_seed a next (seed_after start (inner_turns turns)) step ∙ stands.left.seed ∙ sym (ap (λ (s : MetaState). s.seed) placed.state_is);
    fates = subst (λ (p : Placement). FareAsSet longer p new.net.fates) (sym same_place) (subst (FareAsSet longer next) (sym placed.fates) fare_then);
    late = subst (HoldsBack start longer) (sym placed.bag) (holds_on start turns a b refl old.net.bag stands.left.late);
  }

  placed_then : PlacesAreKept new
  placed_then p done i = subst (λ (q : Placement). IsKept q new.past.items p) (sym same_place) (elim (of_place p done i) as (λ _. IsKept next new.past.items p) [ inl before ↦ inr (past_has start turns old new stands a b next refl leads.step.version placed.past p before) | inr is ↦ inl is ])

  pub next_stands : ClusterStands start longer new
  next_stands = record {
    left = left_then;
    ready = may.ready;
    kept = subst (λ (p : Placement). AreKept start longer p new.past.items) (sym same_place) kept_next;
    serves = may.serves;
    placed = placed_then;
    known = subst (λ (p : Placement). KnowsNodes longer p new.net.fates) (sym same_place) (subst (KnowsNodes longer next) (sym placed.fates) known_now);
    slots = slots_then;
    named = subst (λ (p : Placement). (n : ℕ) (own : Instance) → slice_get p.instances n ≡ Some own → IsNamedBy whole n own.name) (sym same_place) named_then;
    stopped = subst (λ (p : Placement). AreStoppedBy longer p new.stopped.items) (sym same_place) stopped_then;
  }
