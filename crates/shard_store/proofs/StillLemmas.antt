-- A store whose disk was read, and one that is closed.
use Rattle.std.proofs.Common.{◌≡◌, ◌∙◌, ap, sym, subst, refl, Option, Some, None, Result, Ok, Err, IsErrAnd}
use Rattle.std.specs.Prelude.{◌≢◌, IfErr, OnOk, IsErrOf}
use Rattle.std.proofs.lemmas.Result.{err_from_is_err_and}
use Rattle.m3_outside.specs.DiskState.{DiskState}
use Rattle.m3_outside.specs.DiskCalls.{LeavesFiles}
use Rattle.m3_outside.specs.declared.disk_err.DiskErr.{DiskErr}
use Rattle.m3_outside.specs.declared.disk_err.DiskErr.TheVariants.{Memory, Failed as DiskFailed}
use Rattle.store_log.proofs.listed_volumes_proofs.commit_log_proofs.Begin.{stands_stays}
use Rattle.store_log.specs.listed_volumes.fileset_read.Volumes.{IsUndamaged, of_disk}
use Rattle.store_log.specs.listed_volumes.fileset_read.declared.file_err.FileErr.{FileErr}
use Rattle.store_log.specs.listed_volumes.fileset_read.declared.file_err.FileErr.TheVariants as failures
use Rattle.store_log.proofs.snapshot_steps_proofs.volume_steps_proofs.RemovalLemmas.{left_known}
use Rattle.shard_store.specs.StoreParts.{IsCachedIn, IsCountedIn, IsKept, IsOpenOn}
use Rattle.shard_store.specs.declared.opened.Opened.{Opened}

-- it is still open where the files are left
pub opened_left : (opened : Opened) (F : Type 0) (a b : DiskState) → LeavesFiles F a b → IsOpenOn opened a → IsOpenOn opened b
opened_left opened F a b leaves kept = record { stands = stands_stays opened.log F a b leaves kept.stands; exact = left_known F a b leaves kept.exact; at_rest = kept.at_rest; order = kept.order }

-- it is as it was, or closed
pub still_or_closed : {T : Type 0} (r : Result T FileErr) (old new : Option Opened) (d : DiskState) → IfErr r (λ why. why ≢ failures.Memory → new ≡ None) → OnOk r (new ≡ old) → (IsErrOf r failures.Memory → new ≡ old) → IsKept old d → IsKept new d
still_or_closed (Ok x) old new d closed ok memory kept = subst (λ o. IsKept o d) (sym ok) kept
still_or_closed (Err failures.Memory) old new d closed ok memory kept = subst (λ o. IsKept o d) (sym (memory refl)) kept
still_or_closed (Err failures.Disk) old new d closed ok memory kept = subst (λ o. IsKept o d) (sym (closed (λ e. let bad : failures.Disk ≡ failures.Memory = e in cc))) tt
still_or_closed (Err (failures.Form f)) old new d closed ok memory kept = subst (λ o. IsKept o d) (sym (closed (λ e. let bad : failures.Form f ≡ failures.Memory = e in cc))) tt

-- ---- an error of the disk, handed on as one of the files

err_and_is : {X : Type 0} (r : Result X FileErr) (e : FileErr) → IsErrAnd r (λ x. x ≡ e) → r ≡ Err e
err_and_is r e is = let p = err_from_is_err_and r is in p.1 ∙ ap Err p.2

pub fault_said : {X Y : Type 0} (r : Result X FileErr) (q : Result Y DiskErr) (x : DiskErr) → q ≡ Err x → IsErrAnd r (λ e. e ≡ of_disk x) → IsErrOf r failures.Disk → IsErrOf q DiskFailed
fault_said r q DiskFailed was is f = was
fault_said {X} r q Memory was is f = let bad : ◌≡◌ {A = Result X FileErr} (Err failures.Memory) (Err failures.Disk) = sym (err_and_is r failures.Memory is) ∙ f in absurd (cc)

-- want of memory was no fault
pub memory_said : {X Y : Type 0} (r : Result X FileErr) (q : Result Y DiskErr) (x : DiskErr) → q ≡ Err x → IsErrAnd r (λ e. e ≡ of_disk x) → IsErrOf r failures.Memory → IsErrOf q DiskFailed → ⊥
memory_said {X} r q DiskFailed was is m f = let bad : ◌≡◌ {A = Result X FileErr} (Err failures.Disk) (Err failures.Memory) = sym (err_and_is r failures.Disk is) ∙ m in cc
memory_said {X} {Y} r q Memory was is m f = let bad : ◌≡◌ {A = Result Y DiskErr} (Err Memory) (Err DiskFailed) = sym was ∙ f in cc

-- neither is damage
pub undamaged_said : {X : Type 0} (r : Result X FileErr) (x : DiskErr) → IsErrAnd r (λ e. e ≡ of_disk x) → IfErr r IsUndamaged
undamaged_said r x is = subst (λ s. IfErr s IsUndamaged) (sym (err_and_is r (of_disk x) is)) (by x)
  where
    by : (x : DiskErr) → IsUndamaged (of_disk x)
    by DiskFailed = tt
    by Memory = tt

-- it is open, as it is then, or closed
pub kept_or_closed : {T : Type 0} (r : Result T FileErr) (later : Opened) (new : Option Opened) (d : DiskState) → IfErr r (λ why. why ≢ failures.Memory → new ≡ None) → OnOk r (new ≡ Some later) → (IsErrOf r failures.Memory → new ≡ Some later)
    → OnOk r (IsOpenOn later d) → (IsErrOf r failures.Memory → IsOpenOn later d) → IsCountedIn later d → IsCachedIn later d → IsKept new d
kept_or_closed (Ok x) later new d closed ok memory kept kept_still counted cached = subst (λ o. IsKept o d) (sym ok) (kept, counted, cached)
kept_or_closed (Err failures.Memory) later new d closed ok memory kept kept_still counted cached = subst (λ o. IsKept o d) (sym (memory refl)) (kept_still refl, counted, cached)
kept_or_closed (Err failures.Disk) later new d closed ok memory kept kept_still counted cached = subst (λ o. IsKept o d) (sym (closed (λ e. let bad : failures.Disk ≡ failures.Memory = e in cc))) tt
kept_or_closed (Err (failures.Form f)) later new d closed ok memory kept kept_still counted cached = subst (λ o. IsKept o d) (sym (closed (λ e. let bad : failures.Form f ≡ failures.Memory = e in cc))) tt
