-- What is so where no reason stands against a call.
use Rattle.std.proofs.Common.{◌≡◌, ◌<◌, ◌≤◌, ◌+◌, ℕ, length, arith, inl, inr, refl, subst, Bool, true, false, cond}
use Rattle.std.specs.Prelude.{Option, Some, None, nat_le, slice_get}
use Rattle.std.specs.Option.{option_or}
use Rattle.std.proofs.lemmas.Bool.{leb-true, leb-false}
use Rattle.std.proofs.lemmas.Option.{slice_get_cases}
use Rattle.m3_model.specs.Rules.{InWindow, IsPast, IsFuture}
use Rattle.m3_model.specs.declared.point.Point.{Point}
use Rattle.m3_model.specs.declared.reason.Reason.{Reason}
use Rattle.m3_model.specs.declared.reason.Reason.TheVariants as reason
use Rattle.m3_model.specs.declared.replica.Standing.{Standing}
use Rattle.m3_model.specs.declared.replica.Standing.TheVariants as standing
use Rattle.m3_model.specs.declared.rules.Rules.{Rules}
use Rattle.m3_model.specs.declared.rules.Space.{Space}
use Rattle.cluster_core.specs.Refusals.{reason_if, shut, unowned, outdated, outside_of, outside}

-- open, with a tenure and a fence not above the version
pub record IsUp (s : Standing) (t : Option ℕ) (fence version : ℕ) : Type 0 where
  pub open_ : s ≡ standing.Open
  pub tenure : ℕ
  pub owned : t ≡ Some tenure
  pub tenure_low : tenure ≤ version
  pub fence_low : fence ≤ version

up_by_tests : (tenure fence version : ℕ) (a b : Bool) → nat_le tenure version ≡ a → nat_le fence version ≡ b
    → option_or (cond a None (Some reason.NotOwned)) (cond b None (Some (reason.Stale fence))) ≡ None → IsUp standing.Open (Some tenure) fence version
up_by_tests tenure fence version true true a b e = record { open_ = refl; tenure = tenure; owned = refl; tenure_low = leb-true tenure version a; fence_low = leb-true fence version b }
up_by_tests tenure fence version true false a b e = let wrong : Some (reason.Stale fence) ≡ None = e in absurd (cc)
up_by_tests tenure fence version false b a c e = let wrong : Some reason.NotOwned ≡ None = e in absurd (cc)

pub up : (s : Standing) (t : Option ℕ) (fence version : ℕ) → option_or (shut s) (option_or (unowned t version) (outdated fence version)) ≡ None → IsUp s t fence version
up standing.Down t fence version e = let wrong : Some reason.Down ≡ None = e in absurd (cc)
up standing.Boot t fence version e = let wrong : Some reason.Boot ≡ None = e in absurd (cc)
up standing.Open None fence version e = let wrong : Some reason.NotOwned ≡ None = e in absurd (cc)
up standing.Open (Some tenure) fence version e = up_by_tests tenure fence version (nat_le tenure version) (nat_le fence version) refl refl e

window_by_tests : (rules : Rules) (p : Point) (space : Space) (a b : Bool) → slice_get rules.spaces p.ns ≡ Some space → nat_le (p.t + space.past) rules.now ≡ a → nat_le (rules.now + space.future) p.t ≡ b
    → option_or (reason_if a reason.Past) (reason_if b reason.Future) ≡ None → InWindow rules p
window_by_tests rules p space true b at low high e = let wrong : Some reason.Past ≡ None = e in absurd (cc)
window_by_tests rules p space false true at low high e = let wrong : Some reason.Future ≡ None = e in absurd (cc)
window_by_tests rules p space false false at low high e = record { space = space; stands = at; not_past = leb-false (p.t + space.past) rules.now low; not_future = leb-false (rules.now + space.future) p.t high }

-- a time that isn't outside is in the window
pub in_window : (rules : Rules) (p : Point) → p.ns < length rules.spaces → outside rules p ≡ None → InWindow rules p
in_window rules p there e =
    elim ((slice_get_cases rules.spaces p.ns).1) as (λ _. InWindow rules p) [
      | inl found ↦ window_by_tests rules p found.0 (nat_le (p.t + (found.0).past) rules.now) (nat_le (rules.now + (found.0).future) p.t) found.2 refl refl (subst (λ o. outside_of rules p o ≡ None) found.2 e)
      | inr past ↦ absurd (omega (arith, past.0, there))
    ]

same_reason : (x y : Reason) → Some x ≡ Some y → x ≡ y
same_reason x y e = cc

cause_by_tests : (P : Reason → Type 0) (rules : Rules) (p : Point) (x : Reason) (space : Space) (a b : Bool) → slice_get rules.spaces p.ns ≡ Some space → nat_le (p.t + space.past) rules.now ≡ a → nat_le (rules.now + space.future) p.t ≡ b
    → option_or (reason_if a reason.Past) (reason_if b reason.Future) ≡ Some x → (IsPast rules p → P reason.Past) → (IsFuture rules p → P reason.Future) → P x
cause_by_tests P rules p x space true b at low high e past future = subst P (same_reason reason.Past x e) (past (record { space = space; stands = at; too_old = leb-true (p.t + space.past) rules.now low }))
cause_by_tests P rules p x space false true at low high e past future = subst P (same_reason reason.Future x e) (future (record { space = space; stands = at; too_new = leb-true (rules.now + space.future) p.t high }))
cause_by_tests P rules p x space false false at low high e past future = let wrong : None ≡ Some x = e in absurd (cc)

-- what stands against a point for its time: that it is too old, or that it comes too early
pub outside_cause : (P : Reason → Type 0) (rules : Rules) (p : Point) (x : Reason) → p.ns < length rules.spaces → outside rules p ≡ Some x → (IsPast rules p → P reason.Past) → (IsFuture rules p → P reason.Future) → P x
outside_cause P rules p x there e past future =
    elim ((slice_get_cases rules.spaces p.ns).1) as (λ _. P x) [
      | inl found ↦ cause_by_tests P rules p x found.0 (nat_le (p.t + (found.0).past) rules.now) (nat_le (rules.now + (found.0).future) p.t) found.2 refl refl (subst (λ o. outside_of rules p o ≡ Some x) found.2 e) past future
      | inr away ↦ absurd (omega (arith, away.0, there))
    ]
