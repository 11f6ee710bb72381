-- Begins that are refused as not owned, one call after the other.
use Rattle.std.proofs.Common.{◌≡◌, ◌<◌, ◌≤◌, ◌+◌, ℕ, zero, suc, List, [], ◌∷◌, ◌++◌, length, take, map, refl, sym, ap, ◌∙◌, subst, inl, inr, arith, append_assoc}
use Rattle.std.specs.Prelude.{◌⊎◌, ◌≢◌, ⊤, Option, Some, None, MatchOption, Result, Ok, Err}
use Rattle.std.specs.FinMap as finite
use Rattle.std.proofs.lemmas.List.{append-nil, append_cancel_left}
use Rattle.std.proofs.lemmas.Option.{same_Some}
use Rattle.m3_model.specs.Members.{IsIn}
use Rattle.m3_model.specs.declared.placement.Placement.{Placement}
use Rattle.m3_model.specs.declared.reason.Reason.{Reason}
use Rattle.m3_model.specs.declared.reason.Reason.TheVariants as reason
use Rattle.cluster_core.specs.Lists.{At}
use Rattle.cluster_core.specs.declared.event.Event.{Event}
use Rattle.cluster_core.specs.declared.event.Event.TheVariants as event
use Rattle.cluster_core.specs.declared.event.StepCall.{StepCall}
use Rattle.cluster_core.specs.declared.event.StepCall.TheVariants as call
use Rattle.cluster_core.specs.declared.event.StepReply.{StepReply}
use Rattle.cluster_core.specs.declared.event.StepReply.TheVariants as reply
use Rattle.cluster_core.proofs.ListLemmas.{at_append, at_in}
use Rattle.session_net.specs.m3_outside.DiskState.{DiskState}
use Rattle.session_net.specs.replica_calls.Calls.{Tracked}
use Rattle.session_net.specs.replica_exchange.Exchanges.{ask_of}
use Rattle.session_net.specs.replica_exchange.declared.member.Member.{Member}
use Rattle.session_net.specs.replica_exchange.declared.slot.Slot.{Slot}
use Rattle.session_net.specs.Runs.{IsStepped, Ran, slot_at, steps_of}
use Rattle.peer_streams.specs.Streams.{replied}
use Rattle.peer_boot.specs.Merges.{MergedOf}
use Rattle.peer_boot.specs.Tries.{IsJoinTried}
use Rattle.peer_boot.specs.declared.boot_err.BootErr.{BootErr}
use Rattle.node_joins.specs.Unowned.{AreUnowned, CameUnowned, IsTenureUnowned}
use Rattle.node_joins.proofs.EachLemmas.{Each, each_tried}

-- ---- lists in two parts

-- what stands in the second part
at_second : {X : Type 0} (xs ys : List X) (j : ℕ) (x : X) → At ys j x → At (xs ++ ys) (length xs + j) x
at_second [] ys j x at = let same : j ≡ 0 + j = omega arith in subst (λ k. At ys k x) same at
at_second (z ∷ xs) ys j x at = let next : suc (length xs + j) ≡ suc (length xs) + j = omega arith in subst (λ k. At (z ∷ (xs ++ ys)) k x) next (at_second xs ys j x at)

at_parts : {X : Type 0} (xs ys : List X) (j : ℕ) (x : X) → At (xs ++ ys) j x → At xs j x ⊎ ((i : ℕ) × (j ≡ length xs + i) × At ys i x)
at_parts [] ys j x at = inr (j, omega arith, at)
at_parts (z ∷ xs) ys zero x at = inl at
at_parts (z ∷ xs) ys (suc j) x at = elim (at_parts xs ys j x at) as (λ _. At (z ∷ xs) (suc j) x ⊎ ((i : ℕ) × (suc j ≡ suc (length xs) + i) × At ys i x)) [
  | inl here ↦ inl here
  | inr there ↦ (let e = there.1 in inr (there.0, omega (arith, e), there.2))
]

take_first : {X : Type 0} (xs ys : List X) (k : ℕ) (x : X) → At xs k x → take k (xs ++ ys) ≡ take k xs
take_first [] ys k x at = cc
take_first (z ∷ xs) ys zero x at = refl
take_first (z ∷ xs) ys (suc k) x at = ap (λ zs. z ∷ zs) (take_first xs ys k x at)

take_second : {X : Type 0} (xs ys : List X) (k : ℕ) → take (length xs + k) (xs ++ ys) ≡ xs ++ take k ys
take_second [] ys k = let same : 0 + k ≡ k = omega arith in ap (λ n. take n ys) same
take_second (z ∷ xs) ys k = let next : suc (length xs) + k ≡ suc (length xs + k) = omega arith in ap (λ n. take n (z ∷ (xs ++ ys))) next ∙ ap (λ zs. z ∷ zs) (take_second xs ys k)

-- ---- no begin among these

abbrev pub IsNoBegin : Event → Type 0
IsNoBegin e = (n s tenure : ℕ) (a : StepReply) → e ≡ event.Step n s (call.Begin tenure) a → ⊥

abbrev pub IsOtherCall : StepCall → Type 0
IsOtherCall c = (tenure : ℕ) → c ≡ call.Begin tenure → ⊥

pub none_replied : (m t : ℕ) (c : StepCall) (a : StepReply) → IsOtherCall c → Each IsNoBegin (replied m t c a)
none_replied m t c a other e (inl is) n s tenure b same = cc
none_replied m t c a other e (inr (inl is)) n s tenure b same = other tenure cc
none_replied m t c a other e (inr (inr none)) n s tenure b same = absurd none

-- a join asks for none
none_joined : {D : Type 0} (state : D → DiskState) (place : Placement) (s y tenure : ℕ) (old new : Tracked D) (result : Result MergedOf BootErr) → IsJoinTried state place s y tenure old new result → (more : List Event) × Ran state old more new × Each IsNoBegin more
none_joined state place s y tenure old new result h = each_tried IsNoBegin IsOtherCall none_replied (λ v t e. cc) (λ k t e. cc) (λ p t e. cc) state place s y tenure old new result h

-- ---- calls one after the other

module _ {D : Type 0} (state : D → DiskState) where
  -- where nothing came
  pub came_nothing : (t : Tracked D) → CameUnowned state t t
  came_nothing t more is n s tenure j at = let none : [] ≡ more = append_cancel_left t.events [] more (append-nil t.events ∙ is) in absurd (at_in [] j (event.Step n s (call.Begin tenure) (reply.Refused reason.NotOwned)) (subst (λ es. At es j (event.Step n s (call.Begin tenure) (reply.Refused reason.NotOwned))) (sym none) at))

  pub came_by : (old new : Tracked D) (more : List Event) → Ran state old more new → AreUnowned state old.members old.events more → CameUnowned state old new
  came_by old new more ran are events is = subst (AreUnowned state old.members old.events) (append_cancel_left old.events more events (sym ran.grew ∙ is)) are

  -- where no begin came
  none_unowned : (old : Tracked D) (more : List Event) → Each IsNoBegin more → AreUnowned state old.members old.events more
  none_unowned old more none n s tenure j at = let e = event.Step n s (call.Begin tenure) (reply.Refused reason.NotOwned) in absurd (none e (at_in more j e at) n s tenure (reply.Refused reason.NotOwned) refl)

  first_is : (slot : Slot) (old mid : Tracked D) (more : List Event) (m : Member D) → Ran state old more mid → finite.get mid.members slot ≡ Some m → (was : Member D) × (finite.get old.members slot ≡ Some was) × (m.first ≡ was.first)
  first_is slot old mid more m ran there = by (finite.get old.members slot) refl (ran.stepped slot)
    where
      by : (o : Option (Member D)) → finite.get old.members slot ≡ o → IsStepped state (steps_of slot more) o (finite.get mid.members slot) → (was : Member D) × (finite.get old.members slot ≡ Some was) × (m.first ≡ was.first)
      by None is h = let clash : Some m ≡ None = sym there ∙ h in cc
      by (Some was) is h = let same : h.0 ≡ m = same_Some h.0 m (sym h.1 ∙ there) in (was, is, ap (λ (x : Member D). x.first) (sym same) ∙ h.2)

  -- the same, over the first disks of before
  earlier : (old mid : Tracked D) (more : List Event) → Ran state old more mid → (slot : Slot) (past : List Event) (tenure : ℕ) → IsTenureUnowned state mid.members slot past tenure → IsTenureUnowned state old.members slot past tenure
  earlier old mid more ran slot past tenure h = let w = first_is slot old mid more h.was ran h.there in record { was = w.0; there = w.1; now = h.now; is = h.is; first = h.first ∙ w.2; unowned = h.unowned }

  unowned_both : (a b : List Event) (old mid : Tracked D) → Ran state old a mid → AreUnowned state old.members old.events a → AreUnowned state mid.members mid.events b → AreUnowned state old.members old.events (a ++ b)
  unowned_both a b old mid ran first next n s tenure j at =
      let e = event.Step n s (call.Begin tenure) (reply.Refused reason.NotOwned) in
      elim (at_parts a b j e at) as (λ _. (k : ℕ) × (j ≡ suc k) × At (a ++ b) k (ask_of n s (call.Begin tenure)) × IsTenureUnowned state old.members (slot_at n s) (old.events ++ take k (a ++ b)) tenure) [
        | inl here ↦ (let h = first n s tenure j here in
            (h.0, h.1, at_append a b h.0 (ask_of n s (call.Begin tenure)) h.2, subst (λ es. IsTenureUnowned state old.members (slot_at n s) (old.events ++ es) tenure) (sym (take_first a b h.0 (ask_of n s (call.Begin tenure)) h.2)) h.3))
        | inr there ↦ (let h = next n s tenure there.0 there.2 in
            let k = length a + h.0 in
            let is = there.1 in
            let nexts = h.1 in
            let past : mid.events ++ take h.0 b ≡ old.events ++ take k (a ++ b) = ap (λ es. es ++ take h.0 b) ran.grew ∙ append_assoc old.events a (take h.0 b) ∙ ap (λ es. old.events ++ es) (sym (take_second a b h.0)) in
            (k, omega (arith, is, nexts), at_second a b h.0 (ask_of n s (call.Begin tenure)) h.2, subst (λ es. IsTenureUnowned state old.members (slot_at n s) es tenure) past (earlier old mid a ran (slot_at n s) (mid.events ++ take h.0 b) tenure h.3)))
      ]

  -- and where more came behind in which none begins
  pub unowned_more : (a b : List Event) (old mid : Tracked D) → Ran state old a mid → AreUnowned state old.members old.events a → Each IsNoBegin b → AreUnowned state old.members old.events (a ++ b)
  unowned_more a b old mid ran first none = unowned_both a b old mid ran first (none_unowned mid b none)

  -- and where more came behind
  pub came_then : (a b : List Event) (old mid new : Tracked D) → Ran state old a mid → new.events ≡ mid.events ++ b → CameUnowned state old mid → CameUnowned state mid new → CameUnowned state old new
  came_then a b old mid new ran grew first next more is =
      let whole : new.events ≡ old.events ++ (a ++ b) = grew ∙ ap (λ es. es ++ b) ran.grew ∙ append_assoc old.events a b in
      subst (AreUnowned state old.members old.events) (append_cancel_left old.events (a ++ b) more (sym whole ∙ is)) (unowned_both a b old mid ran (first a ran.grew) (next b grew))

  -- a join asks for no begin
  pub join_came : (place : Placement) (s y tenure : ℕ) (old new : Tracked D) (result : Result MergedOf BootErr) → IsJoinTried state place s y tenure old new result → (more : List Event) × Ran state old more new × CameUnowned state old new
  join_came place s y tenure old new result h = let n = none_joined state place s y tenure old new result h in (n.0, n.1, came_by old new n.0 n.1 (none_unowned old n.0 n.2))
