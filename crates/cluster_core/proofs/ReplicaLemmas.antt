-- What each step keeps of a replica.
use Rattle.std.proofs.Common.{◌≡◌, ℕ, ◌≤◌, List, [], ◌∷◌, ◌++◌, refl, ap, subst, inl, inr, arith, Bool, true, false, cond}
use Rattle.std.specs.Prelude.{◌⊎◌, ◌≢◌, nat_eq, nat_le, ◌&&◌}
use Rattle.std.proofs.lemmas.Bool.{eq-eqb, leb-true, leb-false, and_from}
use Rattle.m3_model.specs.Members.{IsIn}
use Rattle.placement_core.proofs.ListLemmas.{IsIn-from_Any}
use Rattle.m3_model.proofs.MemberLemmas.{IsIn-append_left, IsIn-append_cases}
use Rattle.m3_model.specs.declared.point.Point.{Point}
use Rattle.m3_model.specs.declared.rules.Rules.{Rules}
use Rattle.m3_model.specs.declared.replica.Standing.{Standing}
use Rattle.m3_model.specs.declared.replica.Standing.TheVariants as standing
use Rattle.m3_model.specs.declared.reason.Reason.TheVariants as reason
use Rattle.cluster_core.specs.declared.event.StepCall.{StepCall}
use Rattle.cluster_core.specs.declared.event.StepCall.TheVariants as call
use Rattle.cluster_core.specs.declared.event.StepReply.{StepReply}
use Rattle.cluster_core.specs.declared.event.StepReply.TheVariants as reply
use Rattle.cluster_core.specs.declared.event.Event.{Event}
use Rattle.cluster_core.specs.declared.event.Event.TheVariants as event
use Rattle.cluster_core.specs.declared.replica_state.ReplicaState.{ReplicaState}
use Rattle.cluster_core.specs.Replicas.{after, step_of, greater}
use Rattle.cluster_core.specs.Earlier.{HasClock}
use Rattle.cluster_core.specs.Rows.{LawfulStep, IsBegan}

-- the sure points stay
pub after_sure : (r : ReplicaState) (c : StepCall) (a : StepReply) (p : Point) → IsIn r.sure p → IsIn (after r c a).sure p
after_sure r (call.Begin tenure) (reply.Began fence points) p h = IsIn-append_left r.sure points p h
after_sure r (call.Put client number rules version point) reply.Done p h = IsIn-append_left r.sure (point ∷ []) p h
after_sure r (call.Merge page) (reply.Count n) p h = IsIn-append_left r.sure page.points p h
after_sure r (call.Fence version) reply.Done p h = h
after_sure r (call.Tick rules) (reply.Count n) p h = h
after_sure r call.End reply.Done p h = h
after_sure r call.Stop reply.Done p h = h
after_sure r call.Restart reply.Done p h = h
after_sure r (call.Begin tenure) (reply.Refused reason.Disk) p h = h
after_sure r (call.Put client number rules version point) (reply.Refused reason.Disk) p h = h
after_sure r (call.Merge page) (reply.Refused reason.Disk) p h = h
after_sure r (call.Fence version) (reply.Refused reason.Disk) p h = h
after_sure r (call.Tick rules) (reply.Refused reason.Disk) p h = h
after_sure r (call.Tick rules) (reply.Refused (reason.Corrupt damage)) p h = h
after_sure r _ (reply.Refused reason.Disk) p h = h
after_sure r _ (reply.Refused (reason.Corrupt damage)) p h = h
after_sure r _ _ p h = h

pub greater_left : (m n : ℕ) → m ≤ greater m n
greater_left m n = by (nat_le m n) refl
  where
    by : (b : Bool) → nat_le m n ≡ b → m ≤ cond b n m
    by true e = leb-true m n e
    by false e = omega arith

pub greater_right : (m n : ℕ) → n ≤ greater m n
greater_right m n = by (nat_le m n) refl
  where
    by : (b : Bool) → nat_le m n ≡ b → n ≤ cond b n m
    by true e = omega arith
    by false e = omega (arith, leb-false m n e)

-- what a Began may have for its fence isn't lower
began_fence : (st : Standing) (begun : List ℕ) (r : ReplicaState) (tenure fence : ℕ) (points : List Point) → IsBegan st begun r tenure fence points → (begun ≡ [] → r.fence ≡ 0) → r.fence ≤ fence
began_fence standing.Open begun r tenure fence points h none = omega (arith, h.1, greater_right tenure r.fence)
began_fence standing.Down begun r tenure fence points h none = absurd h
began_fence standing.Boot [] r tenure fence points h none = omega (arith, none refl)
began_fence standing.Boot (t ∷ ts) r tenure fence points h none =
    let l = h (λ e. cc) in
    elim l.fence_is as (λ _. r.fence ≤ fence) [
      | inl e ↦ omega (arith, e, greater_right tenure r.fence)
      | inr any ↦ let d = IsIn-from_Any (λ doubtful. fence ≡ greater doubtful (greater tenure r.fence)) r.doubt_fences any in omega (arith, d.2, greater_right tenure r.fence, greater_right d.0 (greater tenure r.fence))
    ]

-- a lawful step never lowers the fence; before the first Began it is 0
pub after_fence : (past : List Event) (n s : ℕ) (r : ReplicaState) (c : StepCall) (a : StepReply) → (r.begun ≡ [] → r.fence ≡ 0) → LawfulStep true past n s r c a → r.fence ≤ (after r c a).fence
after_fence past n s r (call.Begin tenure) (reply.Began fence points) none h = began_fence r.standing r.begun r tenure fence points h.began none
after_fence past n s r (call.Put client number rules version point) reply.Done none h = omega arith
after_fence past n s r (call.Merge page) (reply.Count k) none h = omega arith
after_fence past n s r (call.Fence version) reply.Done none h = greater_left r.fence version
after_fence past n s r (call.Tick rules) (reply.Count k) none h = omega arith
after_fence past n s r call.End reply.Done none h = omega arith
after_fence past n s r call.Stop reply.Done none h = omega arith
after_fence past n s r call.Restart reply.Done none h = omega arith
after_fence past n s r (call.Begin tenure) (reply.Refused reason.Disk) none h = omega arith
after_fence past n s r (call.Put client number rules version point) (reply.Refused reason.Disk) none h = omega arith
after_fence past n s r (call.Merge page) (reply.Refused reason.Disk) none h = omega arith
after_fence past n s r (call.Fence version) (reply.Refused reason.Disk) none h = omega arith
after_fence past n s r (call.Tick rules) (reply.Refused reason.Disk) none h = omega arith
after_fence past n s r (call.Tick rules) (reply.Refused (reason.Corrupt damage)) none h = omega arith
after_fence past n s r _ (reply.Refused reason.Disk) none h = omega arith
after_fence past n s r _ (reply.Refused (reason.Corrupt damage)) none h = omega arith
after_fence past n s r _ _ none h = omega arith

pushed : (past : List Event) (ticks : List Rules) (rules x : Rules) → HasClock past rules → IsIn (ticks ++ rules ∷ []) x → IsIn ticks x ⊎ HasClock past x
pushed past ticks rules x c m = elim (IsIn-append_cases ticks (rules ∷ []) x m) as (λ _. IsIn ticks x ⊎ HasClock past x) [ inl k ↦ inl k | inr k ↦ elim k as (λ _. IsIn ticks x ⊎ HasClock past x) [ inl e ↦ inr (subst (HasClock past) e c) | inr z ↦ absurd z ] ]

-- the rules of the ticks are those of earlier Clocks
pub after_ticks : (past : List Event) (n s : ℕ) (r : ReplicaState) (c : StepCall) (a : StepReply) (x : Rules) → LawfulStep true past n s r c a → IsIn (after r c a).ticks x → IsIn r.ticks x ⊎ HasClock past x
after_ticks past n s r (call.Begin tenure) (reply.Began fence points) x h m = inl m
after_ticks past n s r (call.Put client number rules version point) reply.Done x h m = inl m
after_ticks past n s r (call.Merge page) (reply.Count k) x h m = inl m
after_ticks past n s r (call.Fence version) reply.Done x h m = inl m
after_ticks past n s r (call.Tick rules) (reply.Count k) x h m = pushed past r.ticks rules x h.1 m
after_ticks past n s r call.End reply.Done x h m = inl m
after_ticks past n s r call.Stop reply.Done x h m = inl m
after_ticks past n s r call.Restart reply.Done x h m = inl m
after_ticks past n s r (call.Begin tenure) (reply.Refused reason.Disk) x h m = inl m
after_ticks past n s r (call.Put client number rules version point) (reply.Refused reason.Disk) x h m = inl m
after_ticks past n s r (call.Merge page) (reply.Refused reason.Disk) x h m = inl m
after_ticks past n s r (call.Fence version) (reply.Refused reason.Disk) x h m = inl m
after_ticks past n s r (call.Tick rules) (reply.Refused reason.Disk) x h m = pushed past r.ticks rules x h.clock m
after_ticks past n s r (call.Tick rules) (reply.Refused (reason.Corrupt damage)) x h m = pushed past r.ticks rules x h.clock m
after_ticks past n s r _ (reply.Refused reason.Disk) x h m = inl m
after_ticks past n s r _ (reply.Refused (reason.Corrupt damage)) x h m = inl m
after_ticks past n s r _ _ x h m = inl m

pub some_there : (xs : List ℕ) (x : ℕ) → (xs ++ x ∷ []) ≢ []
some_there [] x e = cc
some_there (y ∷ xs) x e = cc

-- an Open replica has begun
pub after_open : (r : ReplicaState) (c : StepCall) (a : StepReply) → (r.standing ≡ standing.Open → r.begun ≢ []) → (after r c a).standing ≡ standing.Open → (after r c a).begun ≢ []
after_open r (call.Begin tenure) (reply.Began fence points) h e = some_there r.begun tenure
after_open r (call.Put client number rules version point) reply.Done h e = h e
after_open r (call.Merge page) (reply.Count n) h e = h e
after_open r (call.Fence version) reply.Done h e = h e
after_open r (call.Tick rules) (reply.Count n) h e = h e
after_open r call.End reply.Done h e = h e
after_open r call.Stop reply.Done h e = cc
after_open r call.Restart reply.Done h e = cc
after_open r (call.Begin tenure) (reply.Refused reason.Disk) h e = cc
after_open r (call.Put client number rules version point) (reply.Refused reason.Disk) h e = cc
after_open r (call.Merge page) (reply.Refused reason.Disk) h e = cc
after_open r (call.Fence version) (reply.Refused reason.Disk) h e = cc
after_open r (call.Tick rules) (reply.Refused reason.Disk) h e = cc
after_open r (call.Tick rules) (reply.Refused (reason.Corrupt damage)) h e = cc
after_open r _ (reply.Refused reason.Disk) h e = cc
after_open r _ (reply.Refused (reason.Corrupt damage)) h e = cc
after_open r _ _ h e = h e

-- before the first Began the fence is 0
pub after_unbegun : (past : List Event) (n s : ℕ) (r : ReplicaState) (c : StepCall) (a : StepReply) → LawfulStep true past n s r c a → (r.standing ≡ standing.Open → r.begun ≢ []) → (r.begun ≡ [] → r.fence ≡ 0)
    → (after r c a).begun ≡ [] → (after r c a).fence ≡ 0
after_unbegun past n s r (call.Begin tenure) (reply.Began fence points) h begins none e = absurd (some_there r.begun tenure e)
after_unbegun past n s r (call.Put client number rules version point) reply.Done h begins none e = none e
after_unbegun past n s r (call.Merge page) (reply.Count k) h begins none e = none e
after_unbegun past n s r (call.Fence version) reply.Done h begins none e = absurd (begins h.open_ e)
after_unbegun past n s r (call.Tick rules) (reply.Count k) h begins none e = none e
after_unbegun past n s r call.End reply.Done h begins none e = none e
after_unbegun past n s r call.Stop reply.Done h begins none e = none e
after_unbegun past n s r call.Restart reply.Done h begins none e = none e
after_unbegun past n s r (call.Begin tenure) (reply.Refused reason.Disk) h begins none e = none e
after_unbegun past n s r (call.Put client number rules version point) (reply.Refused reason.Disk) h begins none e = none e
after_unbegun past n s r (call.Merge page) (reply.Refused reason.Disk) h begins none e = none e
after_unbegun past n s r (call.Fence version) (reply.Refused reason.Disk) h begins none e = none e
after_unbegun past n s r (call.Tick rules) (reply.Refused reason.Disk) h begins none e = none e
after_unbegun past n s r (call.Tick rules) (reply.Refused (reason.Corrupt damage)) h begins none e = none e
after_unbegun past n s r _ (reply.Refused reason.Disk) h begins none e = none e
after_unbegun past n s r _ (reply.Refused (reason.Corrupt damage)) h begins none e = none e
after_unbegun past n s r _ _ h begins none e = none e

pub after_begun : (r : ReplicaState) (c : StepCall) (a : StepReply)
    → ((after r c a).begun ≡ r.begun) ⊎ ((tenure : ℕ) × (fence : ℕ) × (points : List Point) × (c ≡ call.Begin tenure) × (a ≡ reply.Began fence points))
after_begun r (call.Begin tenure) (reply.Began fence points) = inr (tenure, fence, points, refl, refl)
after_begun r (call.Put client number rules version point) reply.Done = inl refl
after_begun r (call.Merge page) (reply.Count n) = inl refl
after_begun r (call.Fence version) reply.Done = inl refl
after_begun r (call.Tick rules) (reply.Count n) = inl refl
after_begun r call.End reply.Done = inl refl
after_begun r call.Stop reply.Done = inl refl
after_begun r call.Restart reply.Done = inl refl
after_begun r (call.Begin tenure) (reply.Refused reason.Disk) = inl refl
after_begun r (call.Put client number rules version point) (reply.Refused reason.Disk) = inl refl
after_begun r (call.Merge page) (reply.Refused reason.Disk) = inl refl
after_begun r (call.Fence version) (reply.Refused reason.Disk) = inl refl
after_begun r (call.Tick rules) (reply.Refused reason.Disk) = inl refl
after_begun r (call.Tick rules) (reply.Refused (reason.Corrupt damage)) = inl refl
after_begun r _ (reply.Refused reason.Disk) = inl refl
after_begun r _ (reply.Refused (reason.Corrupt damage)) = inl refl
after_begun r _ _ = inl refl

-- ---- the steps of one slot among all events

own : (n s : ℕ) → (nat_eq n n && nat_eq s s) ≡ true
own n s = and_from (nat_eq n n) (nat_eq s s) (eq-eqb n n refl) (eq-eqb s s refl)

pub step_own : (n s : ℕ) (r : ReplicaState) (c : StepCall) (a : StepReply) → step_of n s r (event.Step n s c a) ≡ after r c a
step_own n s r c a = ap (λ b. cond b (after r c a) r) (own n s)
