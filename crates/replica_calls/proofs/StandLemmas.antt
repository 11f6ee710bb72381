-- What a call adds, whatever others add before it and meanwhile.
use Rattle.std.proofs.Common.{◌≡◌, ℕ, ◌≤◌, List, [], ◌∷◌, ◌++◌, length, refl, sym, ap, ◌∙◌, subst, drop, inl, inr, arith, append_assoc, length-append}
use Rattle.std.specs.Prelude.{Result}
use Rattle.std.specs.FinMap as finite
use Rattle.std.specs.List.{Any}
use Rattle.std.proofs.lemmas.List.{append-nil, take_at, take-append-drop}
use Rattle.replica_exchange.specs.m3_outside.DiskState.{DiskState}
use Rattle.replica_exchange.specs.cluster_core.Lists.{At, IsPrefix}
use Rattle.replica_exchange.specs.cluster_core.declared.event.Event.{Event}
use Rattle.replica_exchange.specs.cluster_core.declared.event.Event.TheVariants as event
use Rattle.replica_exchange.specs.cluster_core.declared.event.StepCall.{StepCall}
use Rattle.replica_exchange.specs.cluster_core.declared.event.StepReply.{StepReply}
use Rattle.replica_exchange.proofs.cluster_core_proofs.ExtendLemmas.{any_more, at_last}
use Rattle.replica_exchange.specs.Steps.{reply_by}
use Rattle.replica_exchange.specs.MachineCalls.{Promise, Adding}
use Rattle.replica_exchange.specs.Exchanges.{ask_of, own_events, Seen, seen_in, IsNothing, HasExchanged, HasStepped, HasAdded}
use Rattle.replica_exchange.specs.declared.call_err.CallErr.{CallErr}
use Rattle.replica_exchange.specs.declared.slot.Slot.{Slot}
use Rattle.replica_calls.specs.Calls.{Tracked, MayCallBy, MayCall, MayTell}
use Rattle.replica_calls.proofs.SlotLemmas.{get-insert_other}

longer_by : (seen more now : List Event) → now ≡ seen ++ more → IsPrefix seen now
longer_by seen more now grew = subst (λ l. IsPrefix seen l) (sym grew) (take_at seen more (length seen) refl)

module _ (MayCome : List Event → Type 0) (n s : ℕ) (c : StepCall) (a : StepReply) (old new : Seen) (h : HasExchanged MayCome n s c a old new) where
  -- what comes to what was seen
  abbrev pub exchange_adds : List Event
  exchange_adds = h.before ++ ask_of n s c ∷ (h.between ++ event.Step n s c a ∷ [])

  pub exchange_grew : new.events ≡ old.events ++ exchange_adds
  exchange_grew =
      let ask : List Event = ask_of n s c ∷ [] in
      let step : List Event = event.Step n s c a ∷ [] in
      ap (λ x. x.events) h.after ∙ (append_assoc ((old.events ++ h.before) ++ ask) h.between step ∙ (append_assoc (old.events ++ h.before) ask (h.between ++ step) ∙ append_assoc old.events h.before (ask ++ (h.between ++ step))))

  -- what was seen begins what is seen then
  pub exchange_longer : IsPrefix old.events new.events
  exchange_longer = longer_by old.events exchange_adds new.events exchange_grew

  -- the step stands past it
  pub exchange_stands : (position : ℕ) × (length old.events ≤ position) × At new.events position (event.Step n s c a)
  exchange_stands =
      let first : List Event = old.events ++ h.before in
      let past : List Event = (first ++ ask_of n s c ∷ []) ++ h.between in
      let b = length-append old.events h.before in
      let k = length-append first (ask_of n s c ∷ []) in
      let t = length-append (first ++ ask_of n s c ∷ []) h.between in
      (length past, omega (arith, b, k, t), subst (λ l. At l (length past) (event.Step n s c a)) (sym (ap (λ x. x.events) h.after)) (at_last past (event.Step n s c a)))

  -- and the caller made its Ask alone
  pub exchange_own : new.own ≡ old.own ++ ask_of n s c ∷ []
  exchange_own = ap (λ x. x.own) h.after

module _ (MayCome : List Event → Type 0) (n s : ℕ) (c : StepCall) (a : StepReply) (old new : Seen) (h : HasStepped MayCome n s c a old new) where
  pub stepped_grew : new.events ≡ old.events ++ (h.before ++ event.Step n s c a ∷ [])
  stepped_grew = ap (λ x. x.events) h.after ∙ append_assoc old.events h.before (event.Step n s c a ∷ [])

  pub stepped_longer : IsPrefix old.events new.events
  stepped_longer = longer_by old.events (h.before ++ event.Step n s c a ∷ []) new.events stepped_grew

  pub stepped_stands : (position : ℕ) × (length old.events ≤ position) × At new.events position (event.Step n s c a)
  stepped_stands =
      let past : List Event = old.events ++ h.before in
      let b = length-append old.events h.before in
      (length past, omega (arith, b), subst (λ l. At l (length past) (event.Step n s c a)) (sym (ap (λ x. x.events) h.after)) (at_last past (event.Step n s c a)))

  -- and the caller made nothing
  pub stepped_own : new.own ≡ old.own
  stepped_own = ap (λ x. x.own) h.after

module _ (MayCome : List Event → Type 0) (e : Event) (position : ℕ) (old new : Seen) (h : HasAdded MayCome e position old new) where
  pub added_grew : new.events ≡ old.events ++ (h.before ++ e ∷ [])
  added_grew = ap (λ x. x.events) h.after ∙ append_assoc old.events h.before (e ∷ [])

  pub added_longer : IsPrefix old.events new.events
  added_longer = longer_by old.events (h.before ++ e ∷ []) new.events added_grew

  -- the event stands at its position, past what was seen
  pub added_stands : (length old.events ≤ position) × At new.events position e
  added_stands =
      let past : List Event = old.events ++ h.before in
      let b = length-append old.events h.before in
      let p = h.position_is in
      (omega (arith, b, p), subst (λ k. At new.events k e) (sym h.position_is) (subst (λ l. At l (length past) e) (sym (ap (λ x. x.events) h.after)) (at_last past e)))

  pub added_own : new.own ≡ old.own ++ own_events (e ∷ [])
  added_own = ap (λ x. x.own) h.after

rest_of : (seen now : List Event) → IsPrefix seen now → seen ++ drop (length seen) now ≡ now
rest_of seen now longer = ap (λ l. l ++ drop (length seen) now) (sym longer) ∙ take-append-drop (length seen) now

-- what stands in what was seen stands in what is seen then
pub any_stays : (P : Event → Type 0) (seen now : List Event) → IsPrefix seen now → Any P seen → Any P now
any_stays P seen now longer h = subst (λ l. Any P l) (rest_of seen now longer) (any_more P seen (drop (length seen) now) h)

-- one call after another
pub longer_twice : (seen mid now : List Event) → IsPrefix seen mid → IsPrefix mid now → IsPrefix seen now
longer_twice seen mid now first second =
    let rest : List Event = drop (length seen) mid ++ drop (length mid) now in
    let whole : seen ++ rest ≡ now = sym (append_assoc seen (drop (length seen) mid) (drop (length mid) now)) ∙ (ap (λ l. l ++ drop (length mid) now) (rest_of seen mid first) ∙ rest_of mid now second) in
    longer_by seen rest now (sym whole)

-- ---- a call at a slot

module _ {D X Y : Type 0} (state : D → DiskState) (slot : Slot) (c : StepCall) (ok : X → StepReply) (Promised : Promise D X) (f : X → Y) (result : Result Y CallErr) (old new : Tracked D) where
  still : new ≡ old → IsPrefix old.events new.events
  still same = longer_by old.events [] new.events (ap (λ (t : Tracked D). t.events) same ∙ sym (append-nil old.events))

  -- the list before begins the list after
  pub call_longer : MayCall state slot c ok Promised f result old new → IsPrefix old.events new.events
  call_longer (inl missed) = still missed.same
  call_longer (inr called) = let h = called.answered in exchange_longer IsNothing slot.node slot.shard c (reply_by ok h.said) (seen_in old.events) (seen_in new.events) h.adds

  pub tell_longer : MayTell state slot c ok Promised f result old new → IsPrefix old.events new.events
  tell_longer (inl missed) = still missed.same
  tell_longer (inr called) = let h = called.answered in stepped_longer IsNothing slot.node slot.shard c (reply_by ok h.said) (seen_in old.events) (seen_in new.events) h.adds

  -- and the replicas of other slots are as they were
  pub others_stay : (more : ℕ) (Adds : Adding) → MayCallBy more Adds state slot c ok Promised f result old new → (s : Slot) → ¬ (s ≡ slot) → finite.get new.members s ≡ finite.get old.members s
  others_stay more Adds (inl missed) s apart = ap (λ (t : Tracked D). finite.get t.members s) missed.same
  others_stay more Adds (inr called) s apart = ap (λ m. finite.get m s) called.members ∙ get-insert_other old.members slot called.after s apart
