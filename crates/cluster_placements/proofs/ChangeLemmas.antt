-- A line that makes a placement, by what each of its calls leaves.
use Rattle.std.proofs.Common.{◌≡◌, ◌≢◌, ◌≤◌, ◌<◌, ◌+◌, ◌*◌, ◌-◌, ℕ, suc, Vec, Global, List, [], ◌∷◌, ◌++◌, length, refl, sym, ap, subst, ◌∙◌, inl, inr, arith, Bool, true, false, replicate, length-append, IsPermutation}
use Rattle.std.specs.Prelude.{◌⊎◌, ⊤, Option, Some, None, Result, Ok, Err, OnOk, is_err, not, ◌&&◌, nat_le, vec_len}
use Rattle.std.specs.FinMap.{get}
use Rattle.std.specs.List.{Any}
use Rattle.std.specs.Option.{option_or}
use Rattle.std.specs.Vec.{vec_capacity}
use Rattle.std.proofs.lemmas.Bool.{leb-false}
use Rattle.std.proofs.lemmas.List.{length-replicate}
use Rattle.m3_model.specs.Members.{IsIn}
use Rattle.m3_model.specs.declared.act.Act.{Act}
use Rattle.m3_model.specs.declared.act.Act.TheVariants as act
use Rattle.m3_model.specs.declared.answer.Answer.{Answer}
use Rattle.m3_model.specs.declared.answer.Answer.TheVariants as answer
use Rattle.m3_model.specs.declared.placement.Instance.{Instance}
use Rattle.m3_model.specs.declared.placement.Placement.{Placement}
use Rattle.m3_model.specs.declared.rules.MetaState.{MetaState}
use Rattle.m3_model.proofs.MemberLemmas.{IsIn-append_right}
use Rattle.m3_outside.specs.Depots.{Depot}
use Rattle.m3_outside.specs.DiskState.{DiskState}
use Rattle.m3_outside.specs.Slots.{Held}
use Rattle.m3_outside.specs.declared.disk.Disk.{Ghosts}
use Rattle.m3_outside.specs.declared.slot.DiskSlot.{DiskSlot}
use Rattle.net_plan.specs.declared.late_write.LateWrite.{LateWrite}
use Rattle.m3_model.specs.declared.limits.TheConstants.{MOST_VERSIONS}
use Rattle.placement_acts.specs.Acts.{answer_if, is_step_act, refusal_by_names, refusal_due, versions_due}
use Rattle.placement_core.specs.Lawful.{IsLawful}
use Rattle.placement_core.specs.Shards.{nodes_of, shard_at}
use Rattle.placement_core.specs.Steps.{IsStep, KeepsNames}
use Rattle.placement_core.proofs.ListLemmas.{IsIn-filter, at_within}
use Rattle.cluster_core.specs.Earlier.{HasSend, last_clock, last_place}
use Rattle.cluster_core.specs.Replicas.{fresh, replica}
use Rattle.node_calls.specs.transcripts.Placements.{has_replica}
use Rattle.node_calls.specs.replica_exchange.MachineCalls.{HasRoom}
use Rattle.node_calls.specs.replica_exchange.declared.slot.Slot.{Slot}
use Rattle.node_calls.specs.replica_calls.Calls.{Tracked, first_member}
use Rattle.node_calls.specs.session_net.Ready.{IsCallable, IsReady, Places}
use Rattle.node_calls.specs.session_net.Runs.{Ran, slot_at, steps_of}
use Rattle.node_calls.proofs.session_net_proofs.ReadyLemmas.{room_after}
use Rattle.node_calls.specs.cluster_members.declared.members.Members.{Members}
use Rattle.cluster_core.specs.declared.event.Event.{Event}
use Rattle.event_book.specs.Lists.{most_entries}
use Rattle.node_calls.specs.Halts.{AreManned}
use Rattle.first_cluster.specs.Depots.{AreOut}
use Rattle.first_cluster.specs.First.{IsDiskAnswer}
use Rattle.first_cluster.specs.Lending.{IsFree}
use Rattle.first_cluster.specs.Slots.{AreApart, slots_of}
use Rattle.first_cluster.proofs.FirstLemmas.{node_slot}
use Rattle.first_cluster.proofs.PlacedSlots.{no_meta}
use Rattle.first_cluster.proofs.SlotLists.{in_or_out, slot_instance, slot_replica}
use Rattle.cluster_placements.specs.Lending.{HaveGained, HaveReturned, IsUntakenAt}
use Rattle.cluster_placements.specs.Slots.{AreSlotsIn, left_slots, new_slots}
use Rattle.cluster_placements.specs.Steps.{FitsNext, IsAsItWas, IsChange, IsChanged, IsMade, IsPlaced, MakesNext, MakesPlanned, MayBeMade, MayChange, kept_in, place_events, step_events, step_length}
use Rattle.cluster_placements.specs.declared.plan.Change.{Change}
use Rattle.cluster_placements.proofs.HasLemmas.{any_in}
use Rattle.cluster_placements.proofs.HeldLemmas.{manned_then, out_still, out_then, unstepped_then}
use Rattle.cluster_placements.proofs.PlacedLemmas.{fresh_by, is_new, new_apart, new_free, new_placed, no_fewer, slots_few, slots_then}

-- ---- what stands before it

-- a replica whose tenure ends is there
pub left_there : {D : Type 0} (meta : MetaState) (replicas : Tracked D) (bag : List LateWrite) (next : Placement) (left : List Slot) → IsReady meta replicas bag → left ≡ left_slots meta.place next → (s : Slot) → IsIn left s → get replicas.members s ≢ None
left_there meta replicas bag next left ready is s i =
    let placed = IsIn-filter (λ t. not (has_replica (Some next) t.shard t.node)) (slots_of meta.place) s (subst (λ slots. IsIn slots s) is i) in
    ready.there s.node s.shard (any_in (nodes_of (shard_at meta.place s.shard)) s.node (slot_replica meta.place s placed))

-- each node has a flag
pub flags_fit : (stopped : List Bool) (old next : List Instance) (flags : List Bool) → length stopped ≡ length old → KeepsNames old next → flags ≡ stopped ++ replicate (length next - length stopped) false → length flags ≡ length next
flags_fit stopped old next flags each names is =
    let more = no_fewer old next names in
    let long = length-append stopped (replicate (length next - length stopped) false) in
    let rest = length-replicate (length next - length stopped) false in
    let all = ap length is in
    omega (arith, each, more, long, rest, all)

pub fewer_flags : (stopped : List Bool) (old next : List Instance) → length stopped ≡ length old → KeepsNames old next → length stopped ≤ length next
fewer_flags stopped old next each names = let more = no_fewer old next names in omega (arith, each, more)

-- the node of a new slot is one of the placement's
pub new_node : {D : Type 0} (state : D → DiskState) (replicas : Tracked D) (depot after : Depot D) (next : Placement) (new : List Slot) (slot : Slot) → IsLawful next → new ≡ new_slots replicas.members next → IsUntakenAt state new depot after slot → slot.node < length next.instances
new_node state replicas depot after next new slot lawful is at =
    let i : IsIn new slot = subst (λ slots. IsIn slots slot) (sym at.parts) (IsIn-append_right at.first (slot ∷ at.rest) slot (inl refl)) in
    let one = slot_instance next lawful slot (new_placed replicas.members next slot (subst (λ slots. IsIn slots slot) is i)) in
    at_within next.instances slot.node one.0 one.1

-- ---- disks of new slots

module _ {D : Type 0} {G : Ghosts D} (m : Members D G) (held : DiskSlot → Held D) (may : MayChange m held) (next : Placement) (new : List Slot) (is : new ≡ new_slots m.net.replicas.members next) where
  none_at : (s : Slot) → IsIn new s → get m.net.replicas.members s ≡ None
  none_at s i = new_free m.net.replicas.members next s (subst (λ slots. IsIn slots s) is i)

  pub free_slots : IsLawful next → (s : Slot) → IsIn new s → IsFree held m.net.replicas.members s
  free_slots lawful s i =
      let one = slot_instance next lawful s (new_placed m.net.replicas.members next s (subst (λ slots. IsIn slots s) is i)) in
      let low = at_within next.instances s.node one.0 one.1 in
      let few = lawful.limits.few_nodes in
      record { not_out = may.out.there s (no_meta s (omega (arith, low, few))) (none_at s i); no_member = none_at s i }

  pub fresh_slots : (s : Slot) → IsIn new s → replica s.node s.shard m.net.replicas.events ≡ fresh
  fresh_slots s i = fresh_by s m.net.replicas.events (may.unstepped s (none_at s i))

  pub apart_slots : IsLawful next → AreApart new
  apart_slots lawful = subst AreApart (sym is) (new_apart m.net.replicas.members next lawful)

-- ---- replicas at new slots

module _ {D : Type 0} (state : D → DiskState) (depot after : Depot D) (meta : MetaState) (replicas gained : Tracked D) (bag : List LateWrite) (next : Placement) (ready : IsReady meta replicas bag)
    (have : HaveGained state (new_slots replicas.members next) depot replicas.members after gained.members) (same : gained.events ≡ replicas.events) where
  new_there : (s : Slot) → IsIn (new_slots replicas.members next) s → get gained.members s ≢ None
  new_there s i none = let one = have.gained s i in let bad : None ≡ Some (first_member one.disk) = sym none ∙ one.stands in cc

  had_still : (s : Slot) → get replicas.members s ≢ None → get gained.members s ≢ None
  had_still s there = elim (in_or_out (new_slots replicas.members next) s) as (λ _. get gained.members s ≢ None) [
    | inl i ↦ new_there s i
    | inr away ↦ λ none. there (sym (have.others s away).member ∙ none)
  ]

  pub ready_gained : IsReady meta gained bag
  ready_gained = record {
    clock = ap last_clock same ∙ ready.clock;
    place = ap last_place same ∙ ready.place;
    lawful = ready.lawful;
    there = λ n s i. had_still (slot_at n s) (ready.there n s i);
    late = λ one i. let sent = ready.late one i in record { sent = subst (λ events. HasSend events one.version one.shard one.point) (sym same) sent.sent; there = had_still (slot_at one.node one.shard) sent.there };
  }

  pub callable_gained : (was : MetaState) → IsCallable was replicas bag → IsCallable was gained bag
  callable_gained was before = record {
    clock = ap last_clock same ∙ before.clock;
    place = subst (Any (Places was.place)) (sym same) before.place;
    lawful = before.lawful;
    there = λ n s i. had_still (slot_at n s) (before.there n s i);
    late = ready_gained.late;
  }

  none_or : (s : Slot) → (get replicas.members s ≡ None) ⊎ (get replicas.members s ≢ None)
  none_or s = by (get replicas.members s)
    where
      by : {X : Type 0} (o : Option X) → (o ≡ None) ⊎ (o ≢ None)
      by None = inl refl
      by (Some x) = inr (λ e. cc)

  pub next_there : (n s : ℕ) → IsIn (nodes_of (shard_at next s)) n → get gained.members (slot_at n s) ≢ None
  next_there n s i = elim (none_or (slot_at n s)) as (λ _. get gained.members (slot_at n s) ≢ None) [
    | inl none ↦ new_there (slot_at n s) (is_new replicas.members next (slot_at n s) (node_slot next n s i) none)
    | inr there ↦ had_still (slot_at n s) there
  ]

second_none : (a b : Option Answer) → option_or a b ≡ None → b ≡ None
second_none None b e = e
second_none (Some x) b e = cc

by_steps : (kept : ℕ) (place : Placement) (a : Act) → is_step_act a ≡ true → refusal_due (Some place) kept a ≡ option_or (refusal_by_names place a) (versions_due kept a)
by_steps kept place (act.Init rf shards seed nodes) step = cc
by_steps kept place _ step = refl

-- the limit of versions isn't reached, where an act leads on
below_limit : (kept : ℕ) (place : Placement) (a : Act) → is_step_act a ≡ true → refusal_due (Some place) kept a ≡ None → kept < MOST_VERSIONS
below_limit kept place a step free = by (nat_le MOST_VERSIONS kept) refl
  where
    none : versions_due kept a ≡ None
    none = second_none (refusal_by_names place a) (versions_due kept a) (sym (by_steps kept place a step) ∙ free)

    by : (t : Bool) → nat_le MOST_VERSIONS kept ≡ t → kept < MOST_VERSIONS
    by false e = leb-false MOST_VERSIONS kept e
    by true e = let due : Some (answer.Limit MOST_VERSIONS) ≡ None = sym (ap (λ t. answer_if t (answer.Limit MOST_VERSIONS)) (ap (λ t. t && nat_le MOST_VERSIONS kept) step ∙ e)) ∙ none in cc

-- there is room for one more, where room was taken for it
pub spare_room : {E : Type 0} (past : Vec Placement Global) (taken : Result ⊤ E) → is_err taken ≡ false → OnOk taken (vec_len past + 1 ≤ vec_capacity past) → vec_len past < vec_capacity past
spare_room past (Ok u) is room = omega (arith, room)
spare_room past (Err e) is room = cc

-- with its new replicas the placement may be made, where there is room for its events
pub may_make : {D : Type 0} {G : Ghosts D} (state : D → DiskState) (a : Act) (depot after : Depot D) (old mid : Members D G) (change : Change) → IsChange old (kept_in old) a change → is_step_act a ≡ true → MayChange old depot.held
    → vec_len mid.past < vec_capacity mid.past → mid.past.items ≡ old.past.items → HaveGained state (new_slots old.net.replicas.members change.next) depot old.net.replicas.members after mid.net.replicas.members → mid.net.replicas.events ≡ old.net.replicas.events → mid.net.state ≡ old.net.state → mid.net.bag ≡ old.net.bag
    → HasRoom (step_length change.left.items) old.net.replicas.events → MayBeMade mid change
may_make state a depot after old mid change is step may spare past_same have same state_same bag_same room = record {
  serves = λ p i. subst (λ (meta : MetaState). IsCallable (record meta { place = p }) mid.net.replicas mid.net.bag) (sym state_same)
      (subst (λ bag. IsCallable (record old.net.state { place = p }) mid.net.replicas bag) (sym bag_same)
      (callable_gained state depot after old.net.state old.net.replicas mid.net.replicas old.net.bag change.next may.ready have same (record old.net.state { place = p }) (may.serves p (subst (λ xs. IsIn xs p) past_same i))));
  few_past = subst (λ (xs : List Placement). suc (length xs) < MOST_VERSIONS) (sym past_same) (below_limit (kept_in old) old.net.state.place a step is.leads.leads.free);
  past_room = spare;
  ready = subst (λ (meta : MetaState). IsReady meta mid.net.replicas mid.net.bag) (sym state_same)
      (subst (λ bag. IsReady old.net.state mid.net.replicas bag) (sym bag_same) (ready_gained state depot after old.net.state old.net.replicas mid.net.replicas old.net.bag change.next may.ready have same));
  lawful = is.leads.lawful;
  step = subst (λ (meta : MetaState). IsStep meta.place change.next []) (sym state_same) is.leads.step;
  left_are = is.fitted.left_are ∙ ap (λ (meta : MetaState). left_slots meta.place change.next) (sym state_same);
  there = next_there state depot after old.net.state old.net.replicas mid.net.replicas old.net.bag change.next may.ready have same;
  slots_few = slots_few old.net.replicas.members old.net.state.place change.next old.slots.items change.slots.items is.leads.lawful is.leads.step may.slots may.manned is.fitted.fits.slots_are;
  flags = flags_fit old.stopped.items old.net.state.place.instances change.next.instances change.stopped.items old.one_each is.leads.step.names is.fitted.fits.stopped_are;
  room = subst (HasRoom (step_length change.left.items)) (sym same) room;
}

-- ---- what it leaves

module _ {D : Type 0} {G : Ghosts D} (state : D → DiskState) (kept : ℕ) (a : Act) (depot after : Depot D) (old mid new : Members D G) (change : Change) (answered : Answer) (made : IsMade state mid change answered new)
    (is : IsChange old kept a change) (have : HaveGained state (new_slots old.net.replicas.members change.next) depot old.net.replicas.members after mid.net.replicas.members) (same : mid.net.replicas.events ≡ old.net.replicas.events) (state_same : mid.net.state ≡ old.net.state)
    (past_same : mid.past.items ≡ old.past.items) (fates_same : mid.net.fates ≡ old.net.fates) (bag_same : mid.net.bag ≡ old.net.bag) where
  ran_on : Ran state (record { members = mid.net.replicas.members; events = old.net.replicas.events }) (step_events change.next (left_slots old.net.state.place change.next)) new.net.replicas
  ran_on =
      subst (λ left. Ran state (record { members = mid.net.replicas.members; events = old.net.replicas.events }) (step_events change.next left) new.net.replicas) is.fitted.left_are
      (subst (λ events. Ran state (record { members = mid.net.replicas.members; events = events }) (step_events change.next change.left.items) new.net.replicas) same made.ran)

  fits_then : FitsNext old change.next new.slots.items new.stopped.items
  fits_then = subst (λ slots. FitsNext old change.next slots new.stopped.items) (sym made.slots) (subst (λ flags. FitsNext old change.next change.slots.items flags) (sym made.stopped) is.fitted.fits)

  state_then : new.net.state ≡ record old.net.state { place = change.next }
  state_then = made.state_is ∙ ap (λ (meta : MetaState). record meta { place = change.next }) state_same

  pub placed_then : IsPlaced state depot old change.next after new
  placed_then = record {
    made = mid.net.replicas.members;
    gained = have;
    ran = ran_on;
    state_is = state_then;
    past = made.past ∙ ap (λ (xs : List Placement). xs ++ mid.net.state.place ∷ []) past_same ∙ ap (λ (meta : MetaState). old.past.items ++ meta.place ∷ []) state_same;
    fates = made.fates ∙ fates_same;
    bag = made.bag ∙ bag_same;
    fits = fits_then;
  }

  pub makes : MakesNext state kept a depot old answered after new
  makes = record { next = change.next; leads = is.leads; answer_is = made.answer_is ∙ ap (λ (printed : Placement). answer.Placed printed printed.version) is.fitted.printed; placed = placed_then }

  all_slots : IsPermutation (old.slots.items ++ new_slots old.net.replicas.members change.next) new.slots.items
  all_slots = fits_then.slots_are

  pub may_again : MayChange old depot.held → MayChange new after.held
  may_again may = record {
    ready = made.ready;
    serves = made.serves;
    slots = subst (λ (place : Placement). AreSlotsIn place new.slots.items) (sym (ap (λ (meta : MetaState). meta.place) state_then))
        (slots_then old.net.replicas.members old.net.state.place change.next old.slots.items new.slots.items is.leads.lawful is.leads.step may.slots may.manned all_slots);
    out = out_then state (new_slots old.net.replicas.members change.next) old.slots.items new.slots.items depot after old.net.replicas.members mid.net.replicas.members old.net.replicas.events new.net.replicas
        (step_events change.next (left_slots old.net.state.place change.next)) may.out may.manned may.unstepped have ran_on all_slots;
    manned = manned_then state (new_slots old.net.replicas.members change.next) old.slots.items new.slots.items depot after old.net.replicas.members mid.net.replicas.members old.net.replicas.events new.net.replicas
        (step_events change.next (left_slots old.net.state.place change.next)) may.out may.manned may.unstepped have ran_on all_slots;
    unstepped = unstepped_then state (new_slots old.net.replicas.members change.next) old.slots.items new.slots.items depot after old.net.replicas.members mid.net.replicas.members old.net.replicas.events new.net.replicas
        (step_events change.next (left_slots old.net.state.place change.next)) may.out may.manned may.unstepped have ran_on all_slots;
  }

-- ---- where no disk could be taken

-- the cluster is as it was, with the same replicas
pub as_it_was : {D : Type 0} {G : Ghosts D} (old new : Members D G) → new.net.state ≡ old.net.state → new.past.items ≡ old.past.items → new.net.replicas ≡ old.net.replicas → new.net.fates ≡ old.net.fates → new.net.bag ≡ old.net.bag → new.slots.items ≡ old.slots.items → new.stopped.items ≡ old.stopped.items
    → IsAsItWas old new
as_it_was old new state_is past replicas fates bag slots stopped = record { state_is = state_is; past = past; replicas = replicas; fates = fates; bag = bag; slots = slots; stopped = stopped }

module _ {D : Type 0} {G : Ghosts D} (state : D → DiskState) (kept : ℕ) (a : Act) (depot after : Depot D) (old new : Members D G) (same : IsAsItWas old new) (taken : List Slot) (returned : HaveReturned state taken depot after) where
  pub may_still : MayChange old depot.held → MayChange new after.held
  may_still may = record {
    ready = subst (λ (meta : MetaState). IsReady meta new.net.replicas new.net.bag) (sym same.state_is) (subst (λ (t : Tracked D). IsReady old.net.state t new.net.bag) (sym same.replicas) (subst (λ bag. IsReady old.net.state old.net.replicas bag) (sym same.bag) may.ready));
    serves = λ p i. subst (λ (meta : MetaState). IsCallable (record meta { place = p }) new.net.replicas new.net.bag) (sym same.state_is) (subst (λ (t : Tracked D). IsCallable (record old.net.state { place = p }) t new.net.bag) (sym same.replicas)
        (subst (λ bag. IsCallable (record old.net.state { place = p }) old.net.replicas bag) (sym same.bag) (may.serves p (subst (λ xs. IsIn xs p) same.past i))));
    slots = subst (λ (meta : MetaState). AreSlotsIn meta.place new.slots.items) (sym same.state_is) (subst (λ slots. AreSlotsIn old.net.state.place slots) (sym same.slots) may.slots);
    out = subst (λ (t : Tracked D). AreOut new.slots.items t.members after.held) (sym same.replicas)
        (subst (λ slots. AreOut slots old.net.replicas.members after.held) (sym same.slots) (out_still state old.slots.items old.net.replicas.members depot after may.out taken returned));
    manned = subst (λ (t : Tracked D). AreManned new.slots.items t) (sym same.replicas) (subst (λ slots. AreManned slots old.net.replicas) (sym same.slots) may.manned);
    unstepped = subst (λ (t : Tracked D). (s : Slot) → get t.members s ≡ None → steps_of s t.events ≡ []) (sym same.replicas) may.unstepped;
  }

  -- memory was wanted
  pub wanted_answer : (change : Change) → IsChange old kept a change → taken ≡ change.new.items → IsChanged state kept a depot old answer.Memory after new
  wanted_answer change is of = inr (inr (inr (inr (record { next = change.next; leads = is.leads; answer_is = refl; returned = subst (λ slots. HaveReturned state slots depot after) (of ∙ is.fitted.new_are) returned; same = same }))))

  -- the answer names the slot, or there is no memory for that
  pub untaken_answer : (change : Change) (slot : Slot) (b : Answer) → IsChange old kept a change → taken ≡ change.new.items → IsUntakenAt state taken depot after slot → IsDiskAnswer change.next slot b → IsChanged state kept a depot old b after new
  untaken_answer change slot (answer.Disk name shard) is of cause named = inr (inr (inl (record {
    next = change.next;
    leads = is.leads;
    slot = slot;
    node = named.1.0;
    named = named.1.1;
    answer_is = ap (λ n. answer.Disk n shard) named.1.2 ∙ ap (answer.Disk (named.1.0).name) named.0;
    untaken = subst (λ slots. IsUntakenAt state slots depot after slot) (of ∙ is.fitted.new_are) cause;
    same = same;
  })))
  untaken_answer change slot answer.Memory is of cause named = wanted_answer change is of
  untaken_answer change slot _ is of cause named = absurd named

-- ---- a line in two parts

-- the planned placement was answered, and stands
pub makes_planned : {D : Type 0} {G : Ghosts D} (state : D → DiskState) (depot after : Depot D) (old new : Members D G) (change : Change) (b : Answer) → b ≡ answer.Placed change.printed change.printed.version → change.printed ≡ change.next → IsPlaced state depot old change.next after new
    → MakesPlanned state depot old change.next b after new
makes_planned state depot after old new change b is printed placed = subst (λ (x : Answer). MakesPlanned state depot old change.next x after new) (sym is) (printed, ap (λ (place : Placement). place.version) printed, placed)

-- a disk couldn't be taken
pub untaken_planned : {D : Type 0} {G : Ghosts D} (state : D → DiskState) (depot after : Depot D) (old new : Members D G) (next : Placement) (slot : Slot) (b : Answer) → IsDiskAnswer next slot b → IsAsItWas old new → MakesPlanned state depot old next b after new
untaken_planned state depot after old new next slot (answer.Disk name shard) named same = same
untaken_planned state depot after old new next slot answer.Memory named same = same
untaken_planned state depot after old new next slot _ named same = absurd named

-- ---- room for its events

-- there is none
pub no_room : (events : List Event) (n k : ℕ) (b : Bool) → k ≡ n → b ≡ nat_le (length events + k) most_entries → b ≡ false → ¬ HasRoom n events
no_room events n k b same is off room = let over = leb-false (length events + k) most_entries (sym is ∙ off) in omega (arith, same, over, room)

pub full_answer : {D : Type 0} {G : Ghosts D} (state : D → DiskState) (kept : ℕ) (a : Act) (depot : Depot D) (m : Members D G) (change : Change) → IsChange m kept a change → ¬ HasRoom (step_length change.left.items) m.net.replicas.events → IsChanged state kept a depot m answer.Full depot m
full_answer state kept a depot m change is none = inr (inr (inr (inl (record {
  next = change.next;
  leads = is.leads;
  answer_is = refl;
  no_room = subst (λ left. ¬ HasRoom (step_length left) m.net.replicas.events) is.fitted.left_are none;
  same = record { state_is = refl; past = refl; replicas = refl; fates = refl; bag = refl; slots = refl; stopped = refl };
  depot_is = refl;
}))))

pub room_first : {D : Type 0} (replicas : Tracked D) (left : List Slot) → HasRoom (step_length left) replicas.events → HasRoom 2 replicas.events
room_first replicas left room = omega (arith, room)

pub room_ends : {D : Type 0} (state : D → DiskState) (old mid : Tracked D) (next : Placement) (left : List Slot) → Ran state old (place_events next) mid → HasRoom (step_length left) old.events → HasRoom (2 * length left) mid.events
room_ends state old mid next left ran room = room_after state old mid (place_events next) (step_length left) (2 * length left) ran room (omega arith)
