-- Each machine stays that of its slot's replica, and what a call comes to.
use Rattle.std.proofs.Common.{◌≡◌, ℕ, ◌≤◌, arith, length-append, List, [], ◌∷◌, ◌++◌, length, cond, refl, sym, ap, ◌∙◌, subst, Bool, true, false, inl, inr}
use Rattle.std.specs.Prelude.{◌⊎◌, Some, None, Result, Ok, Err, IfOk, OnErr}
use Rattle.std.specs.BTreeMap.{BTreeMap, get_by}
use Rattle.std.specs.Cmp.{tied_itself}
use Rattle.std.specs.FinMap as finite
use Rattle.std.specs.FinMap.{from_sorted, same_map, is_sorted, get-empty, get-remove}
use Rattle.std.specs.Ordering.{eq_by_cmp, is_eq}
use Rattle.std.specs.declared.snapshot.Snapshot.{Snapshot}
use Rattle.replica_exchange.proofs.m3_model_proofs.RaiseLemmas.{from_sorted-empty}
use Rattle.replica_calls.proofs.MapLemmas.{get_of}
use Rattle.replica_exchange.specs.m3_model.declared.reason.Reason.TheVariants as reason
use Rattle.replica_exchange.specs.m3_outside.DiskState.{DiskState}
use Rattle.replica_exchange.specs.cluster_core.Replicas.{replica, fresh}
use Rattle.replica_exchange.specs.cluster_core.declared.event.Event.{Event}
use Rattle.replica_exchange.specs.cluster_core.declared.event.StepCall.{StepCall}
use Rattle.replica_exchange.specs.cluster_core.declared.event.StepReply.{StepReply}
use Rattle.replica_exchange.specs.Machines.{MachineState, first_machine, IsMachineOf}
use Rattle.replica_exchange.specs.MachineCalls.{IsMemberOf, HasRoom, Promise, Adding, MayAnswerBy, OtherReplicasStay}
use Rattle.replica_exchange.specs.declared.call_err.CallErr.{CallErr}
use Rattle.replica_exchange.specs.declared.call_err.CallErr.TheVariants as call_err
use Rattle.replica_exchange.specs.declared.member.Member.{Member}
use Rattle.replica_exchange.specs.declared.slot.Slot.{Slot}
use Rattle.replica_calls.specs.Calls.{Tracked, first_member, AreMembersOf, IsTracked, IsMissed, WasNotCalled, MayCallBy, IsNoStep}
use Rattle.replica_calls.specs.Slots.{slot_cmp, shown, MemberMap}
use Rattle.replica_calls.proofs.AddLemmas.{replica_added}
use Rattle.replica_calls.proofs.SlotLemmas.{slot_cmp_total, slot_cmp-IsAntisymmetric, same_slot, get-insert_here, get-insert_other, Wrote}

slot_apart : (q s : Slot) → (q ≡ s) ⊎ ¬ (q ≡ s)
slot_apart q s = by (eq_by_cmp slot_cmp q s) refl
  where
    by : (b : Bool) → eq_by_cmp slot_cmp q s ≡ b → (q ≡ s) ⊎ ¬ (q ≡ s)
    by true e = inl (same_slot q s e)
    by false e = inr (λ same. let tied : eq_by_cmp slot_cmp q s ≡ true = subst (λ x. eq_by_cmp slot_cmp q x ≡ true) same (ap is_eq (tied_itself slot_cmp_total q)) in let clash : false ≡ true = sym e ∙ tied in cc)

insert_same : {D : Type 0} (members : MemberMap D) (s : Slot) (v : Member D) → finite.get members s ≡ Some v → finite.insert members s v ≡ members
insert_same members s v at =
    same_map slot_cmp_total slot_cmp-IsAntisymmetric (finite.insert members s v) members
    (λ q. elim (slot_apart q s) as (λ _. finite.get (finite.insert members s v) q ≡ finite.get members q) [
      | inl same ↦ ap (λ p. finite.get (finite.insert members s v) p) same ∙ (get-insert_here members s v ∙ (sym at ∙ ap (λ p. finite.get members p) (sym same)))
      | inr apart ↦ get-insert_other members s v q apart
    ])

-- a replica that was only looked at
pub looked_at : {D : Type 0} (m : BTreeMap Slot (Member D)) (s : Slot) (v : Member D) → is_sorted slot_cmp m.entries ≡ true → Some v ≡ get_by (slot_cmp s) m → Wrote m m s v v
looked_at m s v sorted is =
    let found : finite.get (from_sorted {R = slot_cmp} m.entries) s ≡ Some v = get_of slot_cmp m.entries s sorted ∙ sym is in
    record { sorted = sorted; found = found; after = sym (insert_same (from_sorted {R = slot_cmp} m.entries) s v found) }

pub first_is : {D : Type 0} (disk : D) (machine : MachineState D) (first : Snapshot D) → machine ≡ first_machine disk → first.value ≡ disk → record { machine = machine; first = first } ≡ first_member disk
first_is disk machine first is same = λ i. record { machine = is i; first = shown (same i) }

module _ {D : Type 0} (state : D → DiskState) where
  -- where one was put
  pub are_with : (members : MemberMap D) (slot : Slot) (w : Member D) (past events : List Event) → AreMembersOf state (record { members = members; events = past }) → IsMemberOf state slot events w
      → OtherReplicasStay slot past events → AreMembersOf state (record { members = finite.insert members slot w; events = events })
  are_with members slot w past events are is others s x there =
      elim (slot_apart s slot) as (λ _. IsMemberOf state s events x) [
        | inl same ↦
            let at : Some w ≡ Some x = sym (get-insert_here members slot w) ∙ subst (λ q. finite.get (finite.insert members slot w) q ≡ Some x) same there in
            let w_is : w ≡ x = cc in
            subst (λ q. IsMemberOf state q events x) (sym same) (subst (λ m. IsMemberOf state slot events m) w_is is)
        | inr apart ↦
            let at : finite.get members s ≡ Some x = sym (get-insert_other members slot w s apart) ∙ there in
            let stays = others s.node s.shard (λ node shard. apart (λ i. record { shard = shard i; node = node i })) in
            subst (λ r. IsMachineOf state (state (x.first).value).images r x.machine) (sym stays) (are s x at)
      ]

  -- through a `&mut` to a machine
  pub tracked_with : (m n : BTreeMap Slot (Member D)) (slot : Slot) (v w : Member D) (past events : List Event) → IsTracked state m past → Wrote m n slot v w → IsMemberOf state slot events w
      → OtherReplicasStay slot past events → 2 ≤ length events → IsTracked state n events
  tracked_with m n slot v w past events tracked wrote is others opened = record {
    opened = opened;
    sorted = wrote.sorted;
    are = subst (λ members. AreMembersOf state (record { members = members; events = events })) (sym wrote.after) (are_with (from_sorted {R = slot_cmp} m.entries) slot w past events tracked.are is others);
  }

  -- ---- what a call through a `&mut` comes to

  module _ {X Y : Type 0} (more : ℕ) (Adds : Adding) (slot : Slot) (c : StepCall) (ok : X → StepReply) (Promised : Promise D X) (f : X → Y) (m n : BTreeMap Slot (Member D)) (v w : Member D)
      (past events : List Event) (result : Result Y CallErr) (wrote : Wrote m n slot v w) where
    abbrev pub was : Tracked D
    was = record { members = from_sorted {R = slot_cmp} m.entries; events = past }

    abbrev pub now : Tracked D
    now = record { members = from_sorted {R = slot_cmp} n.entries; events = events }

    unchanged : w ≡ v → events ≡ past → now ≡ was
    unchanged same still =
        let members : from_sorted {R = slot_cmp} n.entries ≡ from_sorted {R = slot_cmp} m.entries = wrote.after ∙ (ap (λ x. finite.insert (from_sorted {R = slot_cmp} m.entries) slot x) same ∙ insert_same (from_sorted {R = slot_cmp} m.entries) slot v wrote.found) in
        λ i. record { members = members i; events = still i }

    may : MayAnswerBy more Adds state c ok Promised f result v past w events → MayCallBy more Adds state slot c ok Promised f result was now
    may (inl h) = inl (record { same = unchanged h.2 h.3; missed = subst (λ o. IsMissed more o past result) (sym wrote.found) (h.0, h.1) })
    may (inr h) = inr (record { before = v; there = wrote.found; after = w; members = wrote.after; answered = h })

    pub may_call : (old : Tracked D) → was ≡ old → MayAnswerBy more Adds state c ok Promised f result v past w events → MayCallBy more Adds state slot c ok Promised f result old now
    may_call old is h = subst (λ o. MayCallBy more Adds state slot c ok Promised f result o now) is (may h)

  -- the slot has no replica
  pub missing : {Y : Type 0} (more : ℕ) (slot : Slot) (m : BTreeMap Slot (Member D)) (past : List Event) (result : Result Y CallErr) (old : Tracked D) → record { members = from_sorted {R = slot_cmp} m.entries; events = past } ≡ old
      → finite.get (from_sorted {R = slot_cmp} m.entries) slot ≡ None → result ≡ Err (call_err.Refused reason.NotOwned) → WasNotCalled more slot result old (record { members = from_sorted {R = slot_cmp} m.entries; events = past })
  missing more slot m past result old is gone refused =
      subst (λ (o : Tracked D). WasNotCalled more slot result o (record { members = from_sorted {R = slot_cmp} m.entries; events = past })) is
      (record { same = refl; missed = subst (λ o. IsMissed more o past result) (sym gone) refused })

  -- ---- what else changes them

  -- the replica at a slot
  pub at_slot : (m : BTreeMap Slot (Member D)) (slot : Slot) (v : Member D) (events : List Event) → IsTracked state m events → Some v ≡ get_by (slot_cmp slot) m → IsMemberOf state slot events v
  at_slot m slot v events tracked is = tracked.are slot v (get_of slot_cmp m.entries slot tracked.sorted ∙ sym is)

  -- none at all
  pub tracked_new : (m : BTreeMap Slot (Member D)) (events : List Event) → m.entries ≡ [] → 2 ≤ length events → IsTracked state m events
  tracked_new m events none opened =
      let empty : from_sorted {R = slot_cmp} m.entries ≡ finite.empty = ap (λ xs. from_sorted {R = slot_cmp} xs) none ∙ from_sorted-empty slot_cmp in
      record {
        opened = opened;
        sorted = subst (λ xs. is_sorted slot_cmp xs ≡ true) (sym none) refl;
        are = λ s x at. let clash : None ≡ Some x = sym (ap (λ (members : MemberMap D). finite.get members s) empty ∙ get-empty slot_cmp s) ∙ at in cc;
      }

  -- a machine made over a disk is that of a slot of which no step is in the list
  pub is_first_member : (slot : Slot) (events : List Event) (disk : D) (machine : MachineState D) (first : Snapshot D) → IsMachineOf state (state disk).images fresh machine → first.value ≡ disk → {now : List Event} → events ≡ now
      → replica slot.node slot.shard now ≡ fresh → IsMemberOf state slot events (record { machine = machine; first = first })
  is_first_member slot events disk machine first is same {now} still unstepped =
      subst (λ x. IsMachineOf state (state x).images (replica slot.node slot.shard events) machine) (sym same)
      (subst (λ r. IsMachineOf state (state disk).images r machine) (sym (ap (λ l. replica slot.node slot.shard l) still ∙ unstepped)) is)

  -- one put in, which is its slot's
  pub tracked_insert : (m n : BTreeMap Slot (Member D)) (slot : Slot) (w : Member D) (events : List Event) → IsTracked state m events → is_sorted slot_cmp n.entries ≡ true
      → from_sorted {R = slot_cmp} n.entries ≡ finite.insert (from_sorted {R = slot_cmp} m.entries) slot w → IsMemberOf state slot events w → IsTracked state n events
  tracked_insert m n slot w events tracked sorted grew is = record {
    opened = tracked.opened;
    sorted = sorted;
    are = subst (λ members. AreMembersOf state (record { members = members; events = events })) (sym grew) (are_with (from_sorted {R = slot_cmp} m.entries) slot w events events tracked.are is (λ a b apart. refl));
  }

  -- the same entries
  pub tracked_same : (m n : BTreeMap Slot (Member D)) (events : List Event) → n.entries ≡ m.entries → IsTracked state m events → IsTracked state n events
  tracked_same m n events same tracked = record {
    opened = tracked.opened;
    sorted = subst (λ es. is_sorted slot_cmp es ≡ true) (sym same) tracked.sorted;
    are = subst (λ es. AreMembersOf state (record { members = from_sorted {R = slot_cmp} es; events = events })) (sym same) tracked.are;
  }

  -- one taken out
  pub tracked_remove : (m n : BTreeMap Slot (Member D)) (slot : Slot) (events : List Event) → IsTracked state m events → is_sorted slot_cmp n.entries ≡ true
      → from_sorted {R = slot_cmp} n.entries ≡ finite.remove (from_sorted {R = slot_cmp} m.entries) slot → IsTracked state n events
  tracked_remove m n slot events tracked sorted fewer = record {
    opened = tracked.opened;
    sorted = sorted;
    are = λ s x at. tracked.are s x (left (from_sorted {R = slot_cmp} m.entries) s x (ap (λ (members : MemberMap D). finite.get members s) (sym fewer) ∙ at));
  }
    where
      left : (members : MemberMap D) (s : Slot) (x : Member D) → finite.get (finite.remove members slot) s ≡ Some x → finite.get members s ≡ Some x
      left members s x at = by (eq_by_cmp slot_cmp s slot) (sym (get-remove slot_cmp_total members slot s) ∙ at)
        where
          by : (b : Bool) → cond b None (finite.get members s) ≡ Some x → finite.get members s ≡ Some x
          by true e = let clash : None ≡ Some x = e in cc
          by false e = e

  -- an event added that no replica makes
  pub tracked_added : (m : BTreeMap Slot (Member D)) (past events : List Event) (e : Event) {E : Type 0} (result : Result ℕ E) → IsNoStep e → IfOk result (λ position. (position ≡ length past) × (events ≡ past ++ e ∷ [])) → OnErr result (events ≡ past)
      → IsTracked state m past → IsTracked state m events
  tracked_added m past events e (Ok position) other ok err tracked = record {
    opened = (let old = tracked.opened in let long = ap length ok.1 ∙ length-append past (e ∷ []) in omega (arith, old, long));
    sorted = tracked.sorted;
    are = λ s x at. subst (λ r. IsMachineOf state (state (x.first).value).images r x.machine) (sym (ap (λ l. replica s.node s.shard l) ok.1 ∙ replica_added past e other s.node s.shard)) (tracked.are s x at);
  }
  tracked_added m past events e (Err why) other ok err tracked = subst (λ l. IsTracked state m l) (sym err) tracked
