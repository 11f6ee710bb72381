-- A cluster that goes on with a saved state stands before the first turn of the run that found it.
use Rattle.std.proofs.Common.{◌≡◌, ◌≢◌, ◌-◌, ℕ, zero, suc, List, [], length, refl, sym, ap, subst, ◌∙◌, inl, inr, arith, Bool}
use Rattle.std.specs.Prelude.{Some, None, slice_get}
use Rattle.std.specs.FinMap.{get, get-empty}
use Rattle.std.proofs.lemmas.Option.{same_Some, slice_get_within}
use Rattle.m3_model.specs.Members.{IsIn}
use Rattle.m3_model.specs.declared.placement.Placement.{Placement}
use Rattle.m3_model.specs.declared.rules.MetaState.{MetaState}
use Rattle.m3_outside.specs.Depots.{Depot}
use Rattle.m3_outside.specs.DiskState.{DiskState}
use Rattle.m3_outside.specs.Slots.{Out}
use Rattle.m3_outside.specs.declared.disk.Disk.{Ghosts}
use Rattle.m3_outside.specs.declared.slot.DiskSlot.{DiskSlot}
use Rattle.net_plan.specs.Fates.{fate_of}
use Rattle.line_tracks.specs.cluster_core.Earlier.{last_clock, last_place}
use Rattle.line_tracks.specs.cluster_core.Lists.{At}
use Rattle.line_tracks.specs.cluster_core.declared.event.Event.{Event}
use Rattle.line_tracks.specs.cluster_core.declared.event.Event.TheVariants as event
use Rattle.line_tracks.specs.cluster_core.declared.event.StepCall.{StepCall}
use Rattle.line_tracks.specs.cluster_core.declared.event.StepReply.{StepReply}
use Rattle.line_tracks.proofs.cluster_core_proofs.ListLemmas.{in_at}
use Rattle.line_tracks.specs.told_by.Hears.{HasReplica}
use Rattle.line_tracks.specs.replica_exchange.declared.slot.Slot.{Slot}
use Rattle.line_tracks.specs.replica_calls.Calls.{first_member}
use Rattle.line_tracks.specs.replica_calls.Slots.{slot_cmp}
use Rattle.line_tracks.specs.session_net.Ready.{IsReady}
use Rattle.line_tracks.specs.session_net.Runs.{slot_at, steps_of}
use Rattle.line_tracks.specs.transcripts.Placements.{placements}
use Rattle.line_tracks.specs.cluster_members.Kept.{IsKept}
use Rattle.line_tracks.specs.cluster_members.declared.members.Members.{Members}
use Rattle.line_tracks.specs.first_cluster.Depots.{AreOut, IsForReplicas, disk_slot_of}
use Rattle.line_tracks.specs.first_cluster.First.{opening_of}
use Rattle.line_tracks.specs.first_cluster.Slots.{slots_of}
use Rattle.line_tracks.proofs.first_cluster_proofs.FirstLemmas.{node_slot}
use Rattle.line_tracks.proofs.first_cluster_proofs.SlotLists.{in_or_out}
use Rattle.line_tracks.specs.calls.Left.{AreStoppedBy, HoldsBack, NetIsLeftBy}
use Rattle.cluster_placements.specs.Slots.{AreSlotsIn}
use Rattle.cluster_placements.specs.Steps.{MayChange}
use Rattle.meta_bytes.specs.States.{IsMetaState}
use Rattle.line_tracks.specs.acts.Stands.{AreKept, HasSlots, ClusterStands}
use Rattle.line_tracks.proofs.acts.KnownLemmas.{known_first}
use Rattle.line_tracks.proofs.acts.StartLemmas.{delivers_all, named_at, place_at, runs_at, slot_tenure, tenure_slot}
use Rattle.opened_cluster.specs.Reopened.{IsReopened}
use Rattle.opened_cluster.proofs.FieldLemmas.{slot_low, slots_in}

module _ {D : Type 0} {G : Ghosts D} (disk_state : D → DiskState) (m : Members D G) (old new : Depot D) (lawful : IsMetaState m.net.state) (is : IsReopened disk_state m.net.state old new m) where
  abbrev state : MetaState
  state = m.net.state

  abbrev place : Placement
  place = m.net.state.place

  abbrev events : List Event
  events = m.net.replicas.events

  -- ---- replicas

  slots_there : (s : Slot) → IsIn (slots_of place) s → get m.net.replicas.members s ≢ None
  slots_there s i none =
      let one = is.gained.gained s i in
      let bad : Some (first_member one.disk) ≡ None = sym one.stands ∙ none in
      cc

  slots_in_so : (s : Slot) → IsIn m.slots.items s → get m.net.replicas.members s ≢ None
  slots_in_so s i = slots_there s (subst (λ xs. IsIn xs s) is.anew.slots i)

  slots_out_so : (s : Slot) → get m.net.replicas.members s ≢ None → IsIn m.slots.items s
  slots_out_so s there = elim (in_or_out (slots_of place) s) as (λ _. IsIn m.slots.items s) [
    | inl i ↦ subst (λ xs. IsIn xs s) (sym is.anew.slots) i
    | inr out ↦ absurd (there ((is.gained.others s out).member ∙ get-empty slot_cmp s))
  ]

  ready_so : IsReady state m.net.replicas m.net.bag
  ready_so = record {
    clock = ap last_clock is.events;
    place = ap last_place is.events;
    lawful = lawful.place;
    there = λ n s i. slots_there (slot_at n s) (node_slot place n s i);
    late = λ one i. absurd (subst (λ xs. IsIn xs one) is.anew.bag i);
  }

  -- ---- what was left

  left_so : NetIsLeftBy (Some state) [] m.net
  left_so = record {
    rules = refl;
    place = refl;
    seed = refl;
    fates = λ client number node own at. ap (λ f. fate_of f (record { client = client; call = number; node = node })) is.anew.fates ∙ delivers_all (record { client = client; call = number; node = node });
    late = subst (HoldsBack (Some state) []) (sym is.anew.bag) (record { messages = []; in_order = tt; held = tt });
  }

  stops_so : AreStoppedBy [] place m.stopped.items
  stops_so node own at = ap (λ (items : List Bool). slice_get items node) is.anew.stopped ∙ runs_at (length place.instances) node (slice_get_within place.instances node own at)

  -- the state's placement alone is kept
  kept_so : AreKept (Some state) [] place m.past.items
  kept_so = record {
    are = λ q. (
      λ i. elim i as (λ _. IsKept place m.past.items q) [
        | inl same ↦ inl (sym same)
        | inr none ↦ absurd none
      ],
      λ k. elim k as (λ _. IsIn (placements (Some state) []) q) [
        | inl same ↦ inl (sym same)
        | inr i ↦ absurd (subst (λ xs. IsIn xs q) is.anew.past i)
      ],
    );
    count = one ∙ ap (λ (xs : List Placement). suc (length xs)) (sym is.anew.past);
    fewer = λ q i. absurd (subst (λ xs. IsIn xs q) is.anew.past i);
  }
    where
      one : suc place.version - place.version ≡ 1
      one = omega arith

  -- ---- what stands in the list

  no_place : (i : ℕ) (p : Placement) (done : List (ℕ × ℕ)) → At [] i (event.Place p done) → ⊥
  no_place i p done at = cc

  -- no step is in it
  no_step : (i n s : ℕ) (c : StepCall) (r : StepReply) → At (opening_of state) i (event.Step n s c r) → ⊥
  no_step zero n s c r at = (let clash : event.Place place [] ≡ event.Step n s c r = same_Some (event.Place place []) (event.Step n s c r) at in cc)
  no_step (suc zero) n s c r at = (let clash : event.Clock state.rules ≡ event.Step n s c r = same_Some (event.Clock state.rules) (event.Step n s c r) at in cc)
  no_step (suc (suc i)) n s c r at = cc

  -- ---- slots

  in_slots : (s : Slot) → IsIn (slots_of place) s → IsIn m.slots.items s
  in_slots s i = subst (λ xs. IsIn xs s) (sym is.anew.slots) i

  all : (n s : ℕ) → HasReplica events n s → IsIn m.slots.items (slot_at n s)
  all n s (inl has) = in_slots (slot_at n s) (tenure_slot place state.rules [] events is.events no_place n s has.0 has.1)
  all n s (inr took) = absurd (no_step took.0 n s took.1 took.2 (subst (λ es. At es took.0 (event.Step n s took.1 took.2)) is.events took.3))

  has_slots : HasSlots m
  has_slots = record {
    are = record { there = slots_in_so; all = slots_out_so };
    given = λ s i. slot_tenure place state.rules [] events is.events no_place s (subst (λ xs. IsIn xs s) is.anew.slots i);
    all = all;
    placed = λ s i. slot_low place lawful.place s (subst (λ xs. IsIn xs s) is.anew.slots i);
  }

  pub stands_so : ClusterStands (Some state) [] m
  stands_so = record {
    left = left_so;
    ready = ready_so;
    kept = kept_so;
    serves = λ q i. absurd (subst (λ xs. IsIn xs q) is.anew.past i);
    placed = λ p done i. let at = in_at events (event.Place p done) i in inl (place_at place state.rules [] events is.events no_place at.0 p done at.1);
    known = known_first [] place m.net.fates is.anew.fates refl (λ name. refl);
    slots = has_slots;
    named = named_at place state.rules [] events is.events no_place;
    stopped = stops_so;
  }

  -- ---- what lines need

  -- the disks of its slots alone are out, where those of no slot were
  out_so : ((disk_slot : DiskSlot) → IsForReplicas disk_slot → old.held disk_slot ≢ Out) → AreOut m.slots.items m.net.replicas.members new.held
  out_so free = record {
    only = λ s out. (is.gained.others s (λ i. out (in_slots s i))).member ∙ get-empty slot_cmp s;
    lent = λ s one there. elim (in_or_out (slots_of place) s) as (λ _. new.held (disk_slot_of s) ≡ Out) [
      | inl i ↦ (is.gained.gained s i).held
      | inr out ↦ absurd (let bad : None ≡ Some one = sym ((is.gained.others s out).member ∙ get-empty slot_cmp s) ∙ there in cc)
    ];
    there = λ s low none held. elim (in_or_out (slots_of place) s) as (λ _. ⊥) [
      | inl i ↦ slots_there s i none
      | inr out ↦ free (disk_slot_of s) low (sym (is.gained.others s out).held ∙ held)
    ];
  }

  may_so : ((disk_slot : DiskSlot) → IsForReplicas disk_slot → old.held disk_slot ≢ Out) → MayChange m new.held
  may_so free = record {
    ready = ready_so;
    serves = λ q i. absurd (subst (λ xs. IsIn xs q) is.anew.past i);
    slots = subst (AreSlotsIn place) (sym is.anew.slots) (slots_in place lawful.place);
    out = out_so free;
    manned = slots_in_so;
    unstepped = λ s none. ap (steps_of s) is.events;
  }

-- so it does, by the state that was saved
pub reopened_stands : {D : Type 0} {G : Ghosts D} (disk_state : D → DiskState) (saved : MetaState) (m : Members D G) (old new : Depot D) → IsMetaState saved → IsReopened disk_state saved old new m → ClusterStands (Some saved) [] m
reopened_stands disk_state saved m old new lawful is =
    subst (λ (s : MetaState). ClusterStands (Some s) [] m) is.anew.state_is (stands_so disk_state m old new (subst IsMetaState (sym is.anew.state_is) lawful) (subst (λ (s : MetaState). IsReopened disk_state s old new m) (sym is.anew.state_is) is))

-- and lines may make placements from it
pub reopened_may : {D : Type 0} {G : Ghosts D} (disk_state : D → DiskState) (saved : MetaState) (m : Members D G) (old new : Depot D) → IsMetaState saved → IsReopened disk_state saved old new m → ((disk_slot : DiskSlot) → IsForReplicas disk_slot → old.held disk_slot ≢ Out) → MayChange m new.held
reopened_may disk_state saved m old new lawful is free = may_so disk_state m old new (subst IsMetaState (sym is.anew.state_is) lawful) (subst (λ (s : MetaState). IsReopened disk_state s old new m) (sym is.anew.state_is) is) free
