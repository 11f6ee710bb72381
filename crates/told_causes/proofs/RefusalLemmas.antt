-- What the first reason of a replica says of its state.
use Rattle.std.proofs.Common.{◌≡◌, ℕ, List, refl, subst, inl, inr, Bool, true, false}
use Rattle.std.specs.Prelude.{◌⊎◌, Option, Some, None, nat_le, if◌then◌else◌, slice_get, ◌+◌}
use Rattle.std.specs.Option.{option_or}
use Rattle.std.proofs.lemmas.Option.{same_Some}
use Rattle.m3_model.specs.declared.point.Point.{Point}
use Rattle.m3_model.specs.declared.reason.Reason.{Reason}
use Rattle.m3_model.specs.declared.reason.Reason.TheVariants as reason
use Rattle.m3_model.specs.declared.replica.Standing.{Standing}
use Rattle.m3_model.specs.declared.replica.Standing.TheVariants as standing
use Rattle.m3_model.specs.declared.rules.Rules.{Rules}
use Rattle.m3_model.specs.declared.rules.Space.{Space}
use Rattle.cluster_core.specs.Rows.{LawfulStep, ReplicaMayRefuse}
use Rattle.cluster_core.specs.declared.event.Event.{Event}
use Rattle.cluster_core.specs.declared.event.StepReply.TheVariants as reply
use Rattle.cluster_core.specs.Refusals.{closed, first_refusal, outdated, outside, outside_of, reason_if, shut, unowned, untenured}
use Rattle.cluster_core.specs.declared.event.StepCall.{StepCall}
use Rattle.cluster_core.specs.declared.event.StepCall.TheVariants as call
use Rattle.cluster_core.specs.declared.replica_state.ReplicaState.{ReplicaState}

pub or_cases : {X : Type 0} (a b : Option X) (x : X) → option_or a b ≡ Some x → (a ≡ Some x) ⊎ (b ≡ Some x)
or_cases None b x e = inr e
or_cases (Some y) b x e = inl e

-- the reasons of a tenure, of a fence and of a moment
abbrev IsLate : Reason → Type 0
IsLate reason.Down = ⊥
IsLate reason.Boot = ⊥
IsLate _ = Unit {0}

unowned_late : (o : Option ℕ) (version : ℕ) (why : Reason) → unowned o version ≡ Some why → IsLate why
unowned_late None version why e = subst IsLate (same_Some reason.NotOwned why e) tt
unowned_late (Some tenure) version why e = by (nat_le tenure version) e
  where
    by : (b : Bool) → (if b then None else Some reason.NotOwned) ≡ Some why → IsLate why
    by true e = cc
    by false e = subst IsLate (same_Some reason.NotOwned why e) tt

untenured_late : (o : Option ℕ) (why : Reason) → untenured o ≡ Some why → IsLate why
untenured_late None why e = subst IsLate (same_Some reason.NotOwned why e) tt
untenured_late (Some tenure) why e = cc

outdated_late : (fence version : ℕ) (why : Reason) → outdated fence version ≡ Some why → IsLate why
outdated_late fence version why = by (nat_le fence version)
  where
    by : (b : Bool) → (if b then None else Some (reason.Stale fence)) ≡ Some why → IsLate why
    by true e = cc
    by false e = subst IsLate (same_Some (reason.Stale fence) why e) tt

if_late : (b : Bool) (own why : Reason) → IsLate own → reason_if b own ≡ Some why → IsLate why
if_late true own why late e = subst IsLate (same_Some own why e) late
if_late false own why late e = cc

outside_late : (rules : Rules) (p : Point) (o : Option Space) (why : Reason) → outside_of rules p o ≡ Some why → IsLate why
outside_late rules p None why e = cc
outside_late rules p (Some space) why e =
    elim (or_cases (reason_if (nat_le (p.t + space.past) rules.now) reason.Past) (reason_if (nat_le (rules.now + space.future) p.t) reason.Future) why e) as (λ _. IsLate why) [
      | inl past ↦ if_late (nat_le (p.t + space.past) rules.now) reason.Past why tt past
      | inr future ↦ if_late (nat_le (rules.now + space.future) p.t) reason.Future why tt future
    ]

shut_down : (x : Standing) → shut x ≡ Some reason.Down → x ≡ standing.Down
shut_down standing.Down e = refl
shut_down standing.Boot e = cc
shut_down standing.Open e = cc

closed_down : (x : Standing) → closed x ≡ Some reason.Down → x ≡ standing.Down
closed_down standing.Down e = refl
closed_down standing.Boot e = cc
closed_down standing.Open e = cc

shut_boot : (x : Standing) → shut x ≡ Some reason.Boot → x ≡ standing.Boot
shut_boot standing.Down e = cc
shut_boot standing.Boot e = refl
shut_boot standing.Open e = cc

closed_boot : (x : Standing) → closed x ≡ Some reason.Boot → x ≡ standing.Boot
closed_boot standing.Down e = cc
closed_boot standing.Boot e = refl
closed_boot standing.Open e = cc

-- the reasons of a replica that isn't open
abbrev IsShut : Reason → Type 0
IsShut reason.Down = Unit {0}
IsShut reason.Boot = Unit {0}
IsShut _ = ⊥

shut_not_late : (why : Reason) → IsShut why → IsLate why → ⊥
shut_not_late reason.Down shut_ late = late
shut_not_late reason.Boot shut_ late = late
shut_not_late _ shut_ late = shut_

-- such a reason is that of the standing
abbrev OfStanding : ReplicaState → Reason → Type 0
OfStanding r why = (shut r.standing ≡ Some why) ⊎ (closed r.standing ≡ Some why)

first_shut : (r : ReplicaState) (c : StepCall) (why : Reason) → IsShut why → first_refusal r c ≡ Some why → OfStanding r why
first_shut r (call.Begin tenure) why is e = inr e
first_shut r (call.Put client number rules version point) why is e =
    by (or_cases (shut r.standing) (option_or (unowned r.tenure version) (option_or (outdated r.fence version) (outside rules point))) why e)
  where
    by : (shut r.standing ≡ Some why) ⊎ (option_or (unowned r.tenure version) (option_or (outdated r.fence version) (outside rules point)) ≡ Some why) → OfStanding r why
    by (inl e) = inl e
    by (inr e) = absurd (shut_not_late why is (elim (or_cases (unowned r.tenure version) (option_or (outdated r.fence version) (outside rules point)) why e) as (λ _. IsLate why) [
      | inl other ↦ unowned_late r.tenure version why other
      | inr rest ↦ elim (or_cases (outdated r.fence version) (outside rules point) why rest) as (λ _. IsLate why) [
        | inl other ↦ outdated_late r.fence version why other
        | inr other ↦ outside_late rules point (slice_get rules.spaces point.ns) why other
      ]
    ]))
first_shut r (call.Read client number rules version pick from to) why is e =
    by (or_cases (shut r.standing) (option_or (unowned r.tenure version) (outdated r.fence version)) why e)
  where
    by : (shut r.standing ≡ Some why) ⊎ (option_or (unowned r.tenure version) (outdated r.fence version) ≡ Some why) → OfStanding r why
    by (inl e) = inl e
    by (inr e) = absurd (shut_not_late why is (elim (or_cases (unowned r.tenure version) (outdated r.fence version) why e) as (λ _. IsLate why) [ inl other ↦ unowned_late r.tenure version why other | inr other ↦ outdated_late r.fence version why other ]))
first_shut r (call.Fence version) why is e = elim (or_cases (shut r.standing) (unowned r.tenure version) why e) as (λ _. OfStanding r why) [ inl own ↦ inl own | inr other ↦ absurd (shut_not_late why is (unowned_late r.tenure version why other)) ]
first_shut r (call.Page after) why is e = elim (or_cases (shut r.standing) (untenured r.tenure) why e) as (λ _. OfStanding r why) [ inl own ↦ inl own | inr other ↦ absurd (shut_not_late why is (untenured_late r.tenure why other)) ]
first_shut r (call.Block ns start size after) why is e = elim (or_cases (shut r.standing) (untenured r.tenure) why e) as (λ _. OfStanding r why) [ inl own ↦ inl own | inr other ↦ absurd (shut_not_late why is (untenured_late r.tenure why other)) ]
first_shut r (call.Digests rules) why is e = elim (or_cases (shut r.standing) (untenured r.tenure) why e) as (λ _. OfStanding r why) [ inl own ↦ inl own | inr other ↦ absurd (shut_not_late why is (untenured_late r.tenure why other)) ]
first_shut r (call.Merge page) why is e = elim (or_cases (shut r.standing) (untenured r.tenure) why e) as (λ _. OfStanding r why) [ inl own ↦ inl own | inr other ↦ absurd (shut_not_late why is (untenured_late r.tenure why other)) ]
first_shut r (call.Tick rules) why is e = inl e
first_shut r (call.Flush rules) why is e = inl e
first_shut r call.Snapshot why is e = inl e
first_shut r call.Report why is e = cc
first_shut r call.End why is e = cc
first_shut r call.Stop why is e = cc
first_shut r call.Restart why is e = cc

-- a replica whose first reason is that it is closed is closed
pub first_down : (r : ReplicaState) (c : StepCall) → first_refusal r c ≡ Some reason.Down → r.standing ≡ standing.Down
first_down r c e = elim (first_shut r c reason.Down tt e) as (λ _. r.standing ≡ standing.Down) [ inl is ↦ shut_down r.standing is | inr is ↦ closed_down r.standing is ]

-- and one whose first reason is that it isn't begun isn't begun
pub first_boot : (r : ReplicaState) (c : StepCall) → first_refusal r c ≡ Some reason.Boot → r.standing ≡ standing.Boot
first_boot r c e = elim (first_shut r c reason.Boot tt e) as (λ _. r.standing ≡ standing.Boot) [ inl is ↦ shut_boot r.standing is | inr is ↦ closed_boot r.standing is ]

-- what a lawful refusal of a step is
pub refused_law : (tells : Bool) (past : List Event) (n s : ℕ) (r : ReplicaState) (c : StepCall) (why : Reason) → LawfulStep tells past n s r c (reply.Refused why) → ReplicaMayRefuse tells past s r c why
refused_law tells past n s r (call.Begin tenure) why h = h
refused_law tells past n s r (call.Put client number rules version point) why h = h
refused_law tells past n s r _ why h = h
