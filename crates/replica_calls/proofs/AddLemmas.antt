-- An event that a caller adds itself comes to the list.
use Rattle.std.proofs.Common.{◌≡◌, ℕ, ◌≤◌, ◌+◌, List, [], ◌∷◌, ◌++◌, length, refl, sym, ap, ◌∙◌, subst, inl, inr, arith}
use Rattle.std.specs.Prelude.{◌↔◌, Result, Ok, Err, IfOk}
use Rattle.std.proofs.lemmas.List.{append-nil}
use Rattle.std.proofs.lemmas.List.Sums.{fold-append}
use Rattle.replica_exchange.specs.cluster_core.Replicas.{replica, fresh, step_of}
use Rattle.replica_exchange.specs.cluster_core.declared.event.Event.{Event}
use Rattle.replica_exchange.specs.cluster_core.declared.event.Event.TheVariants as event
use Rattle.replica_exchange.specs.cluster_core.declared.event.StepCall.{StepCall}
use Rattle.replica_exchange.specs.cluster_core.declared.event.StepReply.{StepReply}
use Rattle.replica_exchange.proofs.cluster_core_proofs.TraceLemmas.{step_cases}
use Rattle.replica_exchange.specs.Exchanges.{own_events, seen_in, IsNothing, HasAdded}
use Rattle.replica_calls.specs.Calls.{IsNoStep}
use Rattle.replica_exchange.proofs.ExchangeLemmas.{own_append}

no_step : (e : Event) (m t : ℕ) (c : StepCall) (a : StepReply) → e ≡ event.Step m t c a → IsNoStep e → ⊥
no_step e m t c a is other = subst IsNoStep is other

-- no replica changes by what no replica makes
pub replica_added : (past : List Event) (e : Event) → IsNoStep e → (m t : ℕ) → replica m t (past ++ e ∷ []) ≡ replica m t past
replica_added past e other m t =
    fold-append (step_of m t) fresh past (e ∷ [])
    ∙ elim (step_cases m t (replica m t past) e) as (λ _. step_of m t (replica m t past) e ≡ replica m t past) [
      | inl same ↦ same
      | inr own ↦ absurd (no_step e m t own.0 own.1 own.2 other)
    ]

-- what a caller adds itself
pub added_alone : (past events : List Event) (e : Event) {E : Type 0} (result : Result ℕ E) → IfOk result (λ position. (position ≡ length past) × (events ≡ past ++ e ∷ [])) → IfOk result (λ position. HasAdded IsNothing e position (seen_in past) (seen_in events))
added_alone past events e (Ok position) h =
    let whole : past ++ e ∷ [] ≡ (past ++ []) ++ e ∷ [] = ap (λ l. l ++ e ∷ []) (sym (append-nil past)) in
    let own : own_events (past ++ e ∷ []) ≡ own_events past ++ own_events (e ∷ []) = own_append past (e ∷ []) in
    record {
      before = [];
      may_before = refl;
      position_is = h.0 ∙ sym (ap length (append-nil past));
      after = ap seen_in h.1 ∙ (λ i. record { events = whole i; own = own i });
    }
added_alone past events e (Err why) h = tt

-- a list that isn't longer than it may be has no room exactly where it is as long
pub full_without_room : {P : Type 0} (long most : ℕ) → long ≤ most → P ↔ (long ≡ most) → P ↔ ¬ (long + 1 ≤ most)
full_without_room long most short full = (λ p. let e = full.0 p in λ room. (let bad : long + 1 ≤ most = room in omega (arith, bad, e)), λ none. full.1 (exact none))
  where
    exact : ¬ (long + 1 ≤ most) → long ≡ most
    exact none = omega (arith, short, none)
