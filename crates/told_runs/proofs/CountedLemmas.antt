-- The faults by which a run is caused are of its lines, and few.
use Rattle.std.proofs.Common.{◌≡◌, ◌≤◌, ◌<◌, ◌+◌, ℕ, List, [], ◌∷◌, take, length, refl, ap, ◌∙◌, subst, inl, inr, arith, Bool, false}
use Rattle.std.specs.Prelude.{cond, count_by}
use Rattle.m3_model.proofs.MemberLemmas.{IsIn-append_cases}
use Rattle.m3_model.proofs.Lists.{take_whole}
use Rattle.m3_model.specs.Members.{IsIn}
use Rattle.transcripts.specs.Faults.{Fault}
use Rattle.told_causes.specs.Faults.{faults_told, tells_of}
use Rattle.told_causes.proofs.FaultLemmas.{count_append, faults_few, faults_steps}
use Rattle.told_runs.specs.Counted.{AreFew, AreOfRun, OfServed}

pub of_run : {tells : Bool} → OfServed AreOfRun tells
of_run life events told taking delivered served fault m =
    let turns = life.present.turns in
    elim (IsIn-append_cases taking (faults_told told.ends events (length turns)) fault m) as (λ _. fault.line < length turns) [
      | inl untaken ↦ ((served.answers).untaken fault untaken).1
      | inr told_of ↦ (faults_steps told.ends events (length turns) fault told_of).early
    ]

-- what one counts for
abbrev unit : Bool → ℕ
unit b = 0 + cond b 1 0

-- none of these passes the test
count_none : (test : Fault → Bool) (xs : List Fault) → ((f : Fault) → IsIn xs f → test f ≡ false) → count_by test xs ≡ 0
count_none test [] none = refl
count_none test (x ∷ xs) none =
    let rest = count_none test xs (λ f m. none f (inr m)) in
    let one : count_by test (x ∷ []) ≡ 0 = ap unit (none x (inl refl)) in
    omega (arith, count_append test (x ∷ []) xs, rest, one)

pub few : {tells : Bool} → OfServed AreFew tells
few life events told taking delivered served test blind untaken =
    let turns = life.present.turns in
    let told_faults = faults_told told.ends events (length turns) in
    let none = count_none test taking (λ f m. untaken f ((served.answers).untaken f m).0) in
    let least = faults_few test blind told.ends events (length turns) (told.lines).ascends in
    let whole : take (told.ends (length turns)) events ≡ events = ap (λ n. take n events) (told.lines).last ∙ take_whole events in
    let here : count_by test told_faults ≤ count_by (tells_of test) events = subst (λ es. count_by test told_faults ≤ count_by (tells_of test) es) whole least in
    omega (arith, count_append test taking told_faults, none, here)
