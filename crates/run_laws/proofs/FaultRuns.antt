-- Faults that may be causes in a run.
use Rattle.std.proofs.Common.{◌≤◌, ◌<◌, ◌+◌, ◌&&◌, ℕ, Bool, [], ◌∷◌, refl, arith, true, false}
use Rattle.std.specs.Prelude.{if◌then◌else◌, nat_eq, min}
use Rattle.std.proofs.lemmas.List.Elements.{All-cons, All-head, All-nil}
use Rattle.m3_outside.specs.Causes.{RoseBy, last_count}
use Rattle.m3_outside.specs.declared.slot.DiskSlot.{DiskSlot}
use Rattle.transcripts.specs.Faults.{Damaged, Failing, Taking}
use Rattle.m3_program.specs.Faults.{AreCauses, IsOfRun}
use Rattle.run_laws.specs.Faults.{counts_of_two, fault_of, one_line}

-- the slot of a node for shard 0
abbrev slot_of : ℕ → DiskSlot
slot_of node = record { node = node; shard = 0 }

-- a count of one at the first slot alone is below the last one
below : (test : Bool) → (if test then 1 else 0) < last_count
below true = omega arith
below false = omega arith

pub counted-accepted : AreCauses true one_line (counts_of_two 0 0) (counts_of_two 1 1) (fault_of Failing 0 0 ∷ [])
counted-accepted = record {
  of_run = All-cons (IsOfRun true one_line) (fault_of Failing 0 0) [] (record { in_run = omega arith; undamaged = λ tells is. cc }) (All-nil (IsOfRun true one_line));
  of_taking = omega arith;
  of_disks = λ slot. by (nat_eq 0 slot.node) (nat_eq 0 slot.shard);
  of_all = λ all slots. omega arith;
}
  where
    by : (node shard : Bool) → min ((if node && shard then 0 else 0) + (0 + (if node && shard then 1 else 0))) last_count ≤ (if node && shard then 1 else 0)
    by true true = omega arith
    by true false = omega arith
    by false shard = omega arith

pub two-refused : ¬ AreCauses true one_line (counts_of_two 0 0) (counts_of_two 1 1) (fault_of Failing 0 0 ∷ fault_of Taking 0 1 ∷ [])
two-refused causes = let bad : 2 ≤ 1 = causes.of_all (omega arith) (λ slot. below (nat_eq 0 slot.node && nat_eq 0 slot.shard)) in omega (arith, bad)

pub another-refused : ¬ AreCauses true one_line (counts_of_two 0 0) (counts_of_two 1 1) (fault_of Failing 0 1 ∷ [])
another-refused causes = let bad : RoseBy 1 0 0 = causes.of_disks (slot_of 1) in omega (arith, bad)

pub taking-refused : ¬ AreCauses true one_line (counts_of_two 5 last_count) (counts_of_two 5 last_count) (fault_of Taking 0 0 ∷ [])
taking-refused causes = let bad : RoseBy 1 5 5 = causes.of_taking in omega (arith, bad)

pub later-refused : ¬ AreCauses true one_line (counts_of_two 0 0) (counts_of_two 1 1) (fault_of Failing 1 0 ∷ [])
later-refused causes = let bad : 1 < 1 = (All-head (IsOfRun true one_line) (fault_of Failing 1 0) [] causes.of_run).in_run in omega (arith, bad)

pub damage-refused : ¬ AreCauses true one_line (counts_of_two 0 0) (counts_of_two 1 1) (fault_of Damaged 0 0 ∷ [])
damage-refused causes = (All-head (IsOfRun true one_line) (fault_of Damaged 0 0) [] causes.of_run).undamaged refl refl
