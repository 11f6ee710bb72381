-- Lists of events that grow by steps of replicas: what stood stands, and where the new events are.
use Rattle.std.proofs.Common.{◌≡◌, ℕ, suc, ◌+◌, ◌≤◌, List, [], ◌∷◌, ◌++◌, length, take, refl, sym, ap, ◌∙◌, subst, inl, inr, arith}
use Rattle.std.specs.Prelude.{◌⊎◌, Option, None, fold}
use Rattle.std.proofs.lemmas.Grind.{fold-append}
use Rattle.std.proofs.lemmas.Bool.{cases_lt}
use Rattle.m3_model.specs.Members.{IsIn}
use Rattle.m3_model.specs.declared.placement.Placement.{Placement}
use Rattle.m3_model.proofs.Lists.{IsIn-take}
use Rattle.cluster_core.specs.Earlier.{GivesTenure, HasTenure, last_place, place_after}
use Rattle.cluster_core.specs.Lists.{At}
use Rattle.cluster_core.specs.declared.event.Event.{Event}
use Rattle.cluster_core.specs.declared.event.Event.TheVariants as event
use Rattle.cluster_core.specs.declared.event.StepCall.{StepCall}
use Rattle.cluster_core.specs.declared.event.StepReply.{StepReply}
use Rattle.cluster_core.proofs.ExtendLemmas.{any_more}
use Rattle.cluster_core.proofs.ListLemmas.{any_at, at_any}
use Rattle.told_runs.specs.told_by.Hears.{HasReplica, IsNamedBy}
use Rattle.told_runs.proofs.told_by_proofs.LineLemmas.{at_front}
use Rattle.told_runs.proofs.told_by_proofs.OneLemmas.{among_back, at_back}
use Rattle.line_tracks.specs.acts.Stays.{HaveNoPlace, IsNoPlace}

-- ---- lists

pub take_behind : {X : Type 0} (xs ys : List X) (j : ℕ) → take (length xs + j) (xs ++ ys) ≡ xs ++ take j ys
take_behind [] ys j = let same : 0 + j ≡ j = omega arith in ap (λ n. take n ys) same
take_behind (x ∷ xs) ys j = let same : suc (length xs) + j ≡ suc (length xs + j) = omega arith in ap (λ n. take n (x ∷ (xs ++ ys))) same ∙ ap (λ zs. x ∷ zs) (take_behind xs ys j)

-- ---- the placement

place_kept : (was : Option Placement) (e : Event) → IsNoPlace e → place_after was e ≡ was
place_kept was (event.Place place done) none = absurd none
place_kept was _ none = refl

places_kept : (was : Option Placement) (more : List Event) → HaveNoPlace more → fold place_after was more ≡ was
places_kept was [] none = refl
places_kept was (e ∷ more) none = ap (λ w. fold place_after w more) (place_kept was e (none e (inl refl))) ∙ places_kept was more (λ x m. none x (inr m))

pub last_still : (events more : List Event) → HaveNoPlace more → last_place (events ++ more) ≡ last_place events
last_still events more none = fold-append place_after None events more ∙ places_kept (last_place events) more none

-- also before an event that came
pub last_before : (events more : List Event) → HaveNoPlace more → (i : ℕ) (e : Event) → length events ≤ i → At (events ++ more) i e → last_place (take i (events ++ more)) ≡ last_place events
last_before events more none i e le at =
    let back = at_back events more i e at le in
    ap (λ n. last_place (take n (events ++ more))) back.1 ∙ ap last_place (take_behind events more back.0) ∙ last_still events (take back.0 more) (λ x m. none x (IsIn-take back.0 more x m))

pub given_before : (events more : List Event) (n s tenure : ℕ) → HasTenure events n s tenure → (i : ℕ) (e : Event) → length events ≤ i → At (events ++ more) i e → HasTenure (take i (events ++ more)) n s tenure
given_before events more n s tenure given i e le at =
    let back = at_back events more i e at le in
    subst (λ es. HasTenure es n s tenure) (sym (ap (λ k. take k (events ++ more)) back.1 ∙ take_behind events more back.0)) (any_more (GivesTenure n s tenure) events (take back.0 more) given)

-- ---- names and slots

pub named_still : (events more : List Event) → HaveNoPlace more → (n : ℕ) (name : List ℕ) → IsNamedBy events n name → IsNamedBy (events ++ more) n name
named_still events more none n name named i place done own at stands =
    elim (cases_lt i (length events)) as (λ _. own.name ≡ name) [
      | inl lt ↦ named i place done own (at_front events more i (event.Place place done) at lt) stands
      | inr ge ↦ absurd (none (event.Place place done) (among_back events more i (event.Place place done) at ge))
    ]

gives_no : (n s tenure : ℕ) (e : Event) → IsNoPlace e → GivesTenure n s tenure e → ⊥
gives_no n s tenure (event.Place place done) none h = none
gives_no n s tenure (event.Ask asked) none h = h
gives_no n s tenure (event.Step node shard c a) none h = h
gives_no n s tenure (event.Clock rules) none h = h
gives_no n s tenure (event.Send version shard point) none h = h
gives_no n s tenure (event.Ack send nodes) none h = h
gives_no n s tenure (event.FetchStart version shard rules pick from to) none h = h
gives_no n s tenure (event.FetchDone start nodes series) none h = h

-- a slot that has a replica had one, or an event that came gave it to a node, or a step of it came
pub replica_parts : (events more : List Event) (n s : ℕ) → HasReplica (events ++ more) n s → HasReplica events n s ⊎ (((tenure : ℕ) × (e : Event) × IsIn more e × GivesTenure n s tenure e) ⊎ ((c : StepCall) × (a : StepReply) × IsIn more (event.Step n s c a)))
replica_parts events more n s (inl given) =
    let at = any_at (GivesTenure n s given.0) (events ++ more) given.1 in
    elim (cases_lt at.0 (length events)) as (λ _. HasReplica events n s ⊎ (((tenure : ℕ) × (e : Event) × IsIn more e × GivesTenure n s tenure e) ⊎ ((c : StepCall) × (a : StepReply) × IsIn more (event.Step n s c a)))) [
      | inl lt ↦ inl (inl (given.0, at_any (GivesTenure n s given.0) events at.0 at.1 (at_front events more at.0 at.1 at.2 lt) at.3))
      | inr ge ↦ inr (inl (given.0, at.1, among_back events more at.0 at.1 at.2 ge, at.3))
    ]
replica_parts events more n s (inr stepped) =
    let e = event.Step n s stepped.1 stepped.2 in
    elim (cases_lt stepped.0 (length events)) as (λ _. HasReplica events n s ⊎ (((tenure : ℕ) × (e : Event) × IsIn more e × GivesTenure n s tenure e) ⊎ ((c : StepCall) × (a : StepReply) × IsIn more (event.Step n s c a)))) [
      | inl lt ↦ inl (inr (stepped.0, stepped.1, stepped.2, at_front events more stepped.0 e stepped.3 lt))
      | inr ge ↦ inr (inr (stepped.1, stepped.2, among_back events more stepped.0 e stepped.3 ge))
    ]

-- where no Place came, it had one, or a step of it came
pub replica_before : (events more : List Event) → HaveNoPlace more → (n s : ℕ) → HasReplica (events ++ more) n s → HasReplica events n s ⊎ ((c : StepCall) × (a : StepReply) × IsIn more (event.Step n s c a))
replica_before events more none n s has = elim (replica_parts events more n s has) as (λ _. HasReplica events n s ⊎ ((c : StepCall) × (a : StepReply) × IsIn more (event.Step n s c a))) [
  | inl before ↦ inl before
  | inr came ↦ elim came as (λ _. HasReplica events n s ⊎ ((c : StepCall) × (a : StepReply) × IsIn more (event.Step n s c a))) [
    | inl given ↦ absurd (gives_no n s given.0 given.1 (none given.1 given.2) given.3)
    | inr stepped ↦ inr stepped
  ]
]
