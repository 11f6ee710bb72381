-- What each call of a disk keeps to that tells nothing.
use Rattle.std.proofs.Common.{◌≡◌, ◌≤◌, ℕ, List, refl, arith, true, false, ◌∙◌}
use Rattle.std.specs.Prelude.{⊤, Option, Result, IsErr, IsErrOf}
use Rattle.m3_outside.specs.Causes.{CountsFaults, count_after, count_with}
use Rattle.m3_outside.specs.DiskCalls.{Creates, LeavesFiles, Lists, Reads, Removes, Sizes, Syncs, Writes}
use Rattle.m3_outside.specs.DiskState.{IsEmpty, Proceeds}
use Rattle.m3_outside.specs.Files.{Files}
use Rattle.m3_outside.specs.declared.disk_err.DiskErr.{DiskErr}
use Rattle.m3_outside.specs.declared.disk_err.DiskErr.TheVariants as disk_err
use Rattle.m3_outside.specs.declared.failed.Failed.{Failed}
use Rattle.m3_outside.specs.declared.file_name.FileName.{FileName}
use Rattle.host_edge.specs.Silent.{FileDiskState, silent}

untold : {A : Type 0} → false ≡ true → A
untold e = absurd (cc)

-- nothing is told of what it holds
pub silent_empty : (d : FileDiskState) → IsEmpty (silent d)
silent_empty d = record { files = λ e. untold e; images = λ e. untold e }

pub proceeds : (step : Files → Files → Type 0) (failed : Type 0) (old new : FileDiskState) → CountsFaults failed old.faults new.faults → Proceeds step failed (silent old) (silent new)
proceeds step failed old new faults = record { tells = refl; faults = faults; told = λ e. untold e }

pub leaves : (failed : Type 0) (old new : FileDiskState) → CountsFaults failed old.faults new.faults → LeavesFiles failed (silent old) (silent new)
leaves failed old new faults = record { proceeds = proceeds _ failed old new faults; files = λ e. untold e; spare = omega arith }

-- one fault was counted
pub counted : (failed : Type 0) (old mid new : ℕ) → mid ≡ old → CountsFaults ⊤ mid new → CountsFaults failed old new
counted failed old mid new same f =
    let later = f.later in
    let stays = f.stays in
    let rose = f.rose tt in
    record { later = omega (arith, same, later); stays = λ e. stays (same ∙ e); rose = λ is. omega (arith, same, rose) }

pub writes : (name : FileName) (at : ℕ) (bytes : List ℕ) (result : Result ⊤ Failed) (old new : FileDiskState) → CountsFaults (IsErr result) old.faults new.faults → Writes name at bytes result (silent old) (silent new)
writes name at bytes result old new faults = record { proceeds = proceeds _ _ old new faults; torn = λ e. untold e; wrote = λ e. untold e; spare = omega arith }

pub syncs : (name : FileName) (result : Result ⊤ Failed) (old new : FileDiskState) → CountsFaults (IsErr result) old.faults new.faults → Syncs name result (silent old) (silent new)
syncs name result old new faults = record { proceeds = proceeds _ _ old new faults; files = λ e. untold e; synced = λ e. untold e; spare = omega arith }

pub reads : (name : FileName) (at : ℕ) (buf : List ℕ) (result : Result ⊤ Failed) (old new : FileDiskState) → CountsFaults (IsErr result) old.faults new.faults → Reads name at buf result (silent old) (silent new)
reads name at buf result old new faults = record { leaves = leaves _ old new faults; bytes = λ e. untold e }

pub sizes : (name : FileName) (result : Result (Option ℕ) Failed) (old new : FileDiskState) → CountsFaults (IsErr result) old.faults new.faults → Sizes name result (silent old) (silent new)
sizes name result old new faults = record { leaves = leaves _ old new faults; size = λ e. untold e }

pub creates : (name : FileName) (size : ℕ) (result : Result ⊤ DiskErr) (old new : FileDiskState) → CountsFaults (IsErrOf result disk_err.Failed) old.faults new.faults → Creates name size result (silent old) (silent new)
creates name size result old new faults = record { changes = record { proceeds = proceeds _ _ old new faults; done = λ e. untold e; undone = λ e. untold e; done_or_not = λ e. untold e }; spare = omega arith }

pub removes : (name : FileName) (result : Result ⊤ Failed) (old new : FileDiskState) → CountsFaults (IsErr result) old.faults new.faults → Removes name result (silent old) (silent new)
removes name result old new faults = record { changes = record { proceeds = proceeds _ _ old new faults; done = λ e. untold e; undone = λ e. untold e; done_or_not = λ e. untold e }; spare = omega arith }

pub lists : (result : Result (List FileName) DiskErr) (old new : FileDiskState) → CountsFaults (IsErrOf result disk_err.Failed) old.faults new.faults → Lists result (silent old) (silent new)
lists result old new faults = record { leaves = leaves _ old new faults; names = λ e. untold e }

-- the count of a set of disks rose by the faults of one that was given back, and by no fault of its own
pub given_back : (old new more : ℕ) → old ≤ new → new ≡ count_with old more → CountsFaults ⊥ old new
given_back old new more later is = record { later = later; stays = λ e. omega (arith, is, e); rose = λ never. absurd never }

-- it rose by a fault of its own
pub own_fault : (failed : Type 0) (old new : ℕ) → old ≤ new → new ≡ count_after old → CountsFaults failed old new
own_fault failed old new later is = record { later = later; stays = λ e. omega (arith, is, e); rose = λ _. omega (arith, is) }
