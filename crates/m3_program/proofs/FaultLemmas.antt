-- Counts that stay constant show no fault.
use Rattle.std.proofs.Common.{◌≡◌, ℕ, ◌+◌, ◌<◌, List, [], ◌∷◌, length, refl, sym, ap, subst, inl, inr, arith, Bool, true, cond, ◌||◌}
use Rattle.std.specs.Prelude.{count_by}
use Rattle.std.proofs.lemmas.List.Sums.{sum_by-cons}
use Rattle.std.proofs.lemmas.List.{nil_from_length}
use Rattle.m3_model.specs.Members.{IsIn}
use Rattle.transcripts.specs.Faults.{Fault, FaultKind, Taking, Failing, Damaged, is_failing, is_taking}
use Rattle.m3_outside.specs.Causes.{last_count}
use Rattle.placement_core.proofs.ListLemmas.{each-from_All}
use Rattle.m3_program.specs.FaultLaws.{ConstantMeansNoFault}
use Rattle.m3_program.specs.Faults.{IsOfRun, times_faulted}

count_all : (test : Fault → Bool) (fs : List Fault) → ((f : Fault) → IsIn fs f → test f ≡ true) → count_by test fs ≡ length fs
count_all test [] all = refl
count_all test (f ∷ fs) all =
    let own : Fault → ℕ = λ g. cond (test g) 1 0 in
    let one : own f ≡ 1 = ap (λ b. cond b 1 0) (all f (inl refl)) in
    let rest = count_all test fs (λ g i. all g (inr i)) in
    let sum : count_by test (f ∷ fs) ≡ own f + count_by test fs = sum_by-cons own f fs in
    omega (arith, one, rest, sum)

is_faulted : (kind : FaultKind) → ¬ (kind ≡ Damaged) → (is_taking kind || is_failing kind) ≡ true
is_faulted Taking h = refl
is_faulted Failing h = refl
is_faulted Damaged h = absurd (h refl)

-- where none is a damage, all are faults of disks
faulted_all : (fs : List Fault) → ((f : Fault) → IsIn fs f → ¬ (f.kind ≡ Damaged)) → times_faulted fs ≡ length fs
faulted_all fs none = count_all (λ f. is_taking f.kind || is_failing f.kind) fs (λ f i. is_faulted f.kind (none f i))

pub no_causes : ConstantMeansNoFault
no_causes run before now faults causes same =
    let bound = causes.of_all (subst (λ n. n < last_count) (sym same.all.same) same.all.below) (λ slot. let own = same.of_disks slot in subst (λ n. n < last_count) (sym own.same) own.below) in
    let stays = same.all.same in
    let all = faulted_all faults (λ f i. (each-from_All (IsOfRun true run) faults causes.of_run f i).undamaged refl) in
    nil_from_length faults (omega (arith, bound, stays, all))
