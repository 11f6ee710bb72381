-- The clause of `run` where source, sink and disks are in memory.
use Rattle.std.proofs.Common.{◌≡◌, ◌∙◌, ℕ, List, [], ◌++◌, Some, None, true, refl, sym, subst, ap, inl, inr}
use Rattle.std.specs.Prelude.{Option}
use Rattle.m3_model.specs.declared.rules.MetaState.{MetaState}
use Rattle.m3_outside.specs.Depots.{Depot, TellAll}
use Rattle.m3_outside.specs.DiskState.{DiskState}
use Rattle.m3_outside.specs.Slots.{Unused}
use Rattle.m3_outside.specs.declared.slot.DiskSlot.{DiskSlot}
use Rattle.m3_program.specs.Faults.{AreEmpty, IsUnwritten}
use Rattle.m3_program.specs.Openings.{Opened, Unopened}
use Rattle.m3_program.specs.Passing.{Gives, Takes, left_in, outflow}
use Rattle.m3_program.specs.LifeLaws.{HasFirstRun}
use Rattle.m3_program.specs.Runs.{Runs}
use Rattle.m3_program.specs.declared.status.Status.{Status}
use Rattle.m3_program.proofs.StandLemmas.{first_run_is_one}
use Rattle.memory_run.specs.Whole.{RanOrNot, RanWhole}

module _ (D : Type 0) (state : D → DiskState) (first now : Depot D) (tells : TellAll state) (unused : (slot : DiskSlot) → first.held slot ≡ Unused) where
  empty : AreEmpty state first.held
  empty = record { tell = tells; unwritten = λ slot. subst (IsUnwritten state) (sym (unused slot)) tt }

  opened : (ended : Status) (input left written : List ℕ) → HasFirstRun state first now None ended input left written → RanWhole ended input written
  opened ended input left written did =
      let causes = did.causes empty in
      record { left = left; ran = did.ran; kept = did.kept empty; joined = did.joined; faults = causes.faults; caused = causes.caused }

  by_runs : (ended : Status) (input left written : List ℕ) → Runs state first now ended input left written → RanOrNot ended input written
  by_runs ended input left written (Opened start did) =
      let one = first_run_is_one state first now start ended input left written did in
      inl (opened ended input left written (subst (λ s. HasFirstRun state first now s ended input left written) (one.none_found empty) one))
  by_runs ended input left written (Unopened why nothing) = inr (why.why, why.ended_is, nothing.1)

  pub whole : (ended : Status) (bytes given before after taken written left gave gave2 took took2 : List ℕ) → given ≡ bytes → before ≡ []
      → Gives (Some given) gave taken (Some left) gave2 → Takes (outflow (Some before) took) (outflow (Some after) took2) written
      → Runs state first now ended (taken ++ left_in (Some left)) (left_in (Some left)) written → RanOrNot ended bytes after
  whole ended bytes given before after taken written left gave gave2 took took2 same none gives takes runs =
      let all : taken ++ left ≡ bytes = sym gives.0 ∙ same in
      let wrote : written ≡ after = sym (takes.written ∙ ap (λ l. l ++ written) none) in
      subst (λ w. RanOrNot ended bytes w) wrote (by_runs ended bytes left written (subst (λ i. Runs state first now ended i left written) all runs))
