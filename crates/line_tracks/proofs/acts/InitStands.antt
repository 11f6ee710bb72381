-- A first cluster stands after the line of the `init` that made it.
use Rattle.std.proofs.Common.{◌≡◌, ◌≢◌, ℕ, zero, suc, List, [], ◌∷◌, ◌++◌, length, refl, sym, ap, subst, ◌∙◌, inl, inr, Bool}
use Rattle.std.specs.Prelude.{Option, Some, None, slice_get}
use Rattle.std.specs.FinMap.{get}
use Rattle.std.proofs.lemmas.Option.{same_Some, slice_get_within}
use Rattle.m3_model.specs.Members.{IsIn}
use Rattle.m3_model.proofs.MemberLemmas.{IsIn-filter_map}
use Rattle.m3_model.specs.declared.act.Act.{Act}
use Rattle.m3_model.specs.declared.act.Act.TheVariants as act
use Rattle.m3_model.specs.declared.answer.Answer.{Answer}
use Rattle.m3_model.specs.declared.answer.Answer.TheVariants as answer
use Rattle.m3_model.specs.declared.placement.Placement.{Placement}
use Rattle.m3_model.specs.declared.turn.Turn.{Turn}
use Rattle.m3_outside.specs.Depots.{Depot}
use Rattle.m3_outside.specs.DiskState.{DiskState}
use Rattle.m3_outside.specs.declared.disk.Disk.{Ghosts}
use Rattle.net_plan.specs.Fates.{fate_of}
use Rattle.cluster_core.specs.Lists.{At}
use Rattle.cluster_core.specs.declared.event.Event.{Event}
use Rattle.cluster_core.specs.declared.event.Event.TheVariants as event
use Rattle.cluster_core.specs.declared.event.StepCall.{StepCall}
use Rattle.cluster_core.specs.declared.event.StepReply.{StepReply}
use Rattle.cluster_core.proofs.ListLemmas.{at_in, in_at}
use Rattle.told_runs.specs.told_by.Hears.{HasReplica}
use Rattle.node_calls.specs.replica_exchange.declared.member.Member.{Member}
use Rattle.node_calls.specs.replica_exchange.declared.slot.Slot.{Slot}
use Rattle.node_calls.specs.replica_calls.Calls.{first_member}
use Rattle.node_calls.specs.session_net.Runs.{IsStepped, slot_at, steps_of}
use Rattle.node_calls.proofs.session_net_proofs.ReadyLemmas.{there_after}
use Rattle.node_calls.specs.cluster_members.Kept.{IsKept}
use Rattle.node_calls.specs.cluster_members.declared.members.Members.{Members}
use Rattle.first_cluster.specs.Begins.{begins_of}
use Rattle.first_cluster.specs.First.{IsFirst, opening_of}
use Rattle.first_cluster.specs.Slots.{slots_of, starts_of}
use Rattle.first_cluster.proofs.FirstLemmas.{first_ready}
use Rattle.first_cluster.proofs.PlacedSlots.{node_low, start_slot}
use Rattle.first_cluster.proofs.SlotLists.{in_or_out}
use Rattle.told_runs.proofs.told_by_proofs.RuleLemmas.{after_lines}
use Rattle.told_runs.proofs.told_by_proofs.TurnLemmas.{inner-append}
use Rattle.transcripts.specs.Fates.{fate_in, numbering_after}
use Rattle.transcripts.specs.Placements.{later_placement, placement_after, placements, printed, seed_after, start_placement}
use Rattle.transcripts.proofs.PlacementLemmas.{stood_known}
use Rattle.transcripts.specs.Record.{InnerTurn, inner_turns, line_of}
use Rattle.transcripts.specs.Rules.{rules_after, start_rules}
use Rattle.line_tracks.specs.calls.Left.{AreStoppedBy, HoldsBack, NetIsLeftBy}
use Rattle.line_tracks.proofs.calls.KeepLemmas.{newest_next, seed_next}
use Rattle.line_tracks.specs.acts.Stands.{AreKept, HasSlots, NoneStands, ClusterStands}
use Rattle.line_tracks.proofs.acts.CountLemmas.{count_first}
use Rattle.line_tracks.proofs.acts.KnownLemmas.{fates_kept, known_first}
use Rattle.line_tracks.proofs.acts.QuietLemmas.{stops_next}
use Rattle.line_tracks.proofs.acts.StandLemmas.{known_or_printed, no_placement}
use Rattle.line_tracks.proofs.acts.StartLemmas.{delivers_all, named_at, place_at, runs_at, slot_tenure, tenure_slot}
use Rattle.line_tracks.specs.acts.Inits.{FirstStands}
use Rattle.line_tracks.proofs.acts.BeginEvents.{of_begin, step_among}

-- ---- a first cluster

module _ {D : Type 0} {G : Ghosts D} (state : D → DiskState) (m : Members D G) (rf shards seed : ℕ) (nodes : List (List ℕ × List ℕ)) (old new : Depot D) (first : IsFirst state rf shards seed nodes old new m) (turns : List Turn) (none : NoneStands turns) where
  abbrev place : Placement
  place = m.net.state.place

  abbrev a : Act
  a = act.Init rf shards seed nodes

  abbrev b : Answer
  b = answer.Placed place place.version

  abbrev longer : List Turn
  longer = turns ++ line_of a b ∷ []

  rules_so : rules_after (start_rules None) (inner_turns longer) ≡ m.net.state.rules
  rules_so = after_lines (start_rules None) turns (line_of a b ∷ []) ∙ none.rules ∙ sym first.rules

  place_so : placement_after (start_placement None) (inner_turns longer) ≡ Some place
  place_so = newest_next None turns a b ∙ ap (later_placement (Some place)) (no_placement turns none)

  seed_so : seed_after None (inner_turns longer) ≡ m.net.state.seed
  seed_so = seed_next None turns a b ∙ sym first.seed_is

  fates_so : (numbering_after 0 longer).fates ≡ []
  fates_so = fates_kept turns a b refl ∙ none.fates

  left_so : NetIsLeftBy None longer m.net
  left_so = record {
    rules = rules_so;
    place = place_so;
    seed = seed_so;
    fates = λ client number node own at.
        ap (λ f. fate_of f (record { client = client; call = number; node = node })) first.fates ∙ delivers_all (record { client = client; call = number; node = node }) ∙ ap (λ list. fate_in list client number own.name) (sym fates_so);
    late = subst (HoldsBack None longer) (sym first.bag) (record { messages = []; in_order = tt; held = tt });
  }

  stops_so : AreStoppedBy longer place m.stopped.items
  stops_so node own at =
      ap (λ (items : List Bool). slice_get items node) first.stopped ∙ runs_at (length place.instances) node (slice_get_within place.instances node own at) ∙ ap Some (sym (stops_next turns a b own.name ∙ none.runs own.name))

  slots_in_so : (s : Slot) → IsIn m.slots.items s → get m.net.replicas.members s ≢ None
  slots_in_so s i = there_after state (record { members = first.opened.made; events = opening_of m.net.state }) m.net.replicas (begins_of first.opened.begun.said (starts_of place)) s first.opened.begun.ran (λ gone.
      let was = first.opened.taken.taken s i in
      let bad : Some (first_member was.disk) ≡ None = sym was.stands ∙ gone in
      cc)

  slots_out_so : (s : Slot) → get m.net.replicas.members s ≢ None → IsIn m.slots.items s
  slots_out_so s there = elim (in_or_out m.slots.items s) as (λ _. IsIn m.slots.items s) [
    | inl i ↦ i
    | inr out ↦ absurd (there (subst (λ (o : Option (Member D)). IsStepped state (steps_of s (begins_of first.opened.begun.said (starts_of place))) o (get m.net.replicas.members s)) (first.opened.taken.others s out).no_member (first.opened.begun.ran.stepped s)))
  ]

  slot_in : (s : Slot) → IsIn m.slots.items s → IsIn (slots_of place) s
  slot_in s i = subst (λ xs. IsIn xs s) first.slots i

  in_slots : (s : Slot) → IsIn (slots_of place) s → IsIn m.slots.items s
  in_slots s i = subst (λ xs. IsIn xs s) (sym first.slots) i

  -- ---- what stands in the list

  abbrev begins : List Event
  begins = begins_of first.opened.begun.said (starts_of place)

  abbrev events : List Event
  events = m.net.replicas.events

  abbrev list : List Event
  list = event.Place place [] ∷ event.Clock m.net.state.rules ∷ begins

  list_is : events ≡ list
  list_is = first.opened.begun.ran.grew

  no_place : (i : ℕ) (p : Placement) (done : List (ℕ × ℕ)) → At begins i (event.Place p done) → ⊥
  no_place i p done at =
      let h = of_begin first.opened.begun.said (starts_of place) (event.Place p done) (at_in begins i (event.Place p done) at) in
      elim h.is as (λ _. ⊥) [ inl ask ↦ cc | inr step ↦ cc ]

  -- each step is of a slot
  one_step : (i n s : ℕ) (c : StepCall) (r : StepReply) → At list i (event.Step n s c r) → IsIn (slots_of place) (slot_at n s)
  one_step zero n s c r at = (let clash : event.Place place [] ≡ event.Step n s c r = same_Some (event.Place place []) (event.Step n s c r) at in cc)
  one_step (suc zero) n s c r at = (let clash : event.Clock m.net.state.rules ≡ event.Step n s c r = same_Some (event.Clock m.net.state.rules) (event.Step n s c r) at in cc)
  one_step (suc (suc i)) n s c r at =
      let h = step_among first.opened.begun.said (starts_of place) n s c r (at_in begins i (event.Step n s c r) at) in
      let same : (h.start).slot ≡ slot_at n s = λ j. record { shard = h.shard_is j; node = h.node_is j } in
      subst (IsIn (slots_of place)) same (start_slot place h.start h.among)

  -- ---- slots

  all : (n s : ℕ) → HasReplica events n s → IsIn m.slots.items (slot_at n s)
  all n s (inl has) = in_slots (slot_at n s) (tenure_slot place m.net.state.rules begins events list_is no_place n s has.0 has.1)
  all n s (inr took) = in_slots (slot_at n s) (one_step took.0 n s took.1 took.2 (subst (λ es. At es took.0 (event.Step n s took.1 took.2)) list_is took.3))

  has_slots : HasSlots m
  has_slots = record {
    are = record { there = slots_in_so; all = slots_out_so };
    given = λ s i. slot_tenure place m.net.state.rules begins events list_is no_place s (slot_in s i);
    all = all;
    placed = λ s i. node_low place rf shards nodes first.place s (slot_in s i);
  }

  -- the first placement alone is kept
  kept_so : AreKept None longer place m.past.items
  kept_so = record {
    are = λ q. (
      λ i. elim (known_or_printed None (inner_turns turns) (inner_turns (line_of a b ∷ [])) q (subst (λ (ts : List InnerTurn). IsIn (placements None ts) q) (inner-append turns (line_of a b ∷ [])) i)) as (λ _. IsKept place m.past.items q) [
        | inl before ↦ let t = IsIn-filter_map (λ (turn : InnerTurn). printed turn.answer) (inner_turns turns) q before in absurd (let bad : None ≡ Some q = sym (none.prints t.0 t.1) ∙ t.2 in cc)
        | inr last ↦ elim last.1 as (λ _. IsKept place m.past.items q) [
          | inl same ↦ inl (same_place q (ap (λ (x : InnerTurn). printed x.answer) same ∙ last.2))
          | inr nothing ↦ absurd nothing
        ]
      ],
      λ k. elim k as (λ _. IsIn (placements None (inner_turns longer)) q) [
        | inl is ↦ subst (IsIn (placements None (inner_turns longer))) (sym is) (stood_known None (inner_turns longer) place place_so)
        | inr i ↦ absurd (subst (λ xs. IsIn xs q) first.past i)
      ],
    );
    count = count_first turns a b place none.prints refl ∙ ap (λ (xs : List Placement). suc (length xs)) (sym first.past);
    fewer = λ q i. absurd (subst (λ xs. IsIn xs q) first.past i);
  }
    where
      same_place : (q : Placement) → Some place ≡ Some q → q ≡ place
      same_place q is = cc

  pub stands_so : ClusterStands None longer m
  stands_so = record {
    left = left_so;
    ready = first_ready state m.net.state m.slots.items old new m.net.replicas m.net.bag first.lawful first.slots first.bag first.opened;
    kept = kept_so;
    serves = λ q i. absurd (subst (λ xs. IsIn xs q) first.past i);
    placed = λ p done i. let at = in_at m.net.replicas.events (event.Place p done) i in inl (place_at place m.net.state.rules begins events list_is no_place at.0 p done at.1);
    known = known_first longer place m.net.fates first.fates fates_so (λ name. stops_next turns a b name ∙ none.runs name);
    slots = has_slots;
    named = named_at place m.net.state.rules begins events list_is no_place;
    stopped = stops_so;
  }

pub first_stands : {D : Type 0} {G : Ghosts D} (state : D → DiskState) (m : Members D G) → FirstStands state m
first_stands {D} {G} state m turns rf shards seed nodes old new none first = stands_so state m rf shards seed nodes old new first turns none
