-- What a call that reads files answers for what its store said, and what the store's answer leaves of the machine.
use Rattle.std.proofs.Common.{◌≡◌, ◌≢◌, inl, inr, refl, sym, ap, subst, ◌∙◌, ℕ, true, Option, Some, None, Result, Ok, Err}
use Rattle.std.specs.Prelude.{OnOk, IfErr, IsErrOf}
use Rattle.m3_model.specs.declared.reason.Damage.{Damage}
use Rattle.m3_model.specs.declared.reason.Reason.{Reason}
use Rattle.m3_model.specs.declared.reason.Reason.TheVariants as reason
use Rattle.m3_model.specs.declared.replica.Standing.{Standing}
use Rattle.m3_model.specs.declared.replica.Standing.TheVariants as standing
use Rattle.m3_outside.specs.DiskState.{DiskState}
use Rattle.shard_store.specs.shard_files.Damage.{OfForm}
use Rattle.shard_store.specs.fileset_read.Volumes.{IsUndamaged}
use Rattle.shard_store.specs.fileset_read.declared.file_err.FileErr.{FileErr}
use Rattle.shard_store.specs.fileset_read.declared.file_err.FileErr.TheVariants as unread
use Rattle.shard_store.specs.Stores.{StoreState, closed_over}
use Rattle.replica_machine.specs.declared.work.Work.{Work}
use Rattle.replica_machine.specs.Boots.{IsRefused}
use Rattle.replica_machine.specs.Damages.{told_of, IsFileDamage}
use Rattle.replica_machine.specs.Machines.{MachineState, IsStoreOf, shut_machine}
use Rattle.replica_machine.specs.Reading.{IsRefusedReading, files_answer}
use Rattle.replica_machine.proofs.ReasonLemmas.{IsPlain, plain_no_damage}
use Rattle.replica_machine.proofs.StepLemmas.{machine_of, store_stays}

-- ---- reasons

err_damage : (X : Type 0) (why : Reason) (damage : Damage) → (let r : Result X Reason = Err why in IsErrOf r (reason.Corrupt damage)) → why ≡ reason.Corrupt damage
err_damage X why damage e = cc

same_damage : (a b : Damage) → reason.Corrupt a ≡ reason.Corrupt b → a ≡ b
same_damage a b e = cc

-- the file of the damage is named
pub damage_named : (X : Type 0) (why : FileErr) (damage : Damage) → (let r : Result X FileErr = Err why in IsErrOf (files_answer r) (reason.Corrupt damage)) → IsFileDamage damage
damage_named X unread.Disk damage e = let is = err_damage X reason.Disk damage e in absurd (cc)
damage_named X unread.Memory damage e = let is = err_damage X reason.Memory damage e in absurd (cc)
damage_named X (unread.Form file) damage e = subst IsFileDamage (same_damage (told_of (OfForm file 0)) damage (err_damage X (reason.Corrupt (told_of (OfForm file 0))) damage e)) (file, refl)

pub plain_named : (X : Type 0) (why : Reason) → IsPlain why → (damage : Damage) → (let r : Result X Reason = Err why in IsErrOf r (reason.Corrupt damage)) → IsFileDamage damage
plain_named X why plain damage e = absurd (plain_no_damage why plain damage (err_damage X why damage e))

pub plain_left : {D : Type 0} (old : MachineState D) (why : Reason) → IsPlain why → IsRefused old old why
plain_left old reason.Down plain = refl
plain_left old reason.Boot plain = refl
plain_left old reason.NotOwned plain = refl
plain_left old (reason.Stale fence) plain = refl
plain_left old reason.Past plain = refl
plain_left old reason.Future plain = refl
plain_left old reason.Disk plain = absurd plain
plain_left old reason.Cut plain = absurd plain
plain_left old reason.Memory plain = absurd plain
plain_left old (reason.Corrupt damage) plain = absurd plain

module _ {D : Type 0} (X : Type 0) (state : D → DiskState) (old : MachineState D) where
  pub refused_some : (o : Option Reason) (why : Reason) → o ≡ Some why → (let r : Result X Reason = Err why in IsRefusedReading state o old r)
  refused_some o why e = subst (λ (x : Option Reason). let r : Result X Reason = Err why in IsRefusedReading state x old r) (sym e) refl

  by_none : (said : Result X FileErr) → ((state old.disk).tells ≡ true → IfErr said IsUndamaged) → IsRefusedReading state None old (files_answer said)
  by_none (Ok x) sound = tt
  by_none (Err unread.Disk) sound = inr refl
  by_none (Err unread.Memory) sound = inl refl
  by_none (Err (unread.Form file)) sound = (λ tells. absurd (sound tells), λ tells. absurd (sound tells))

  pub refused_none : (o : Option Reason) (said : Result X FileErr) → o ≡ None → ((state old.disk).tells ≡ true → IfErr said IsUndamaged) → IsRefusedReading state o old (files_answer said)
  refused_none o said e sound = subst (λ (x : Option Reason). IsRefusedReading state x old (files_answer said)) (sym e) (by_none said sound)

-- ---- the store

-- a fault or damage closes store and machine, and everything else leaves both open
pub store_after_files : {D X : Type 0} (s now_s : Standing) (now : StoreState D) (said : Result X FileErr) → s ≡ standing.Open → OnOk said (now_s ≡ s) → IfErr said (λ why. why ≢ unread.Memory → now_s ≡ standing.Down) → (IsErrOf said unread.Memory → now_s ≡ s)
    → OnOk said (now.open_ ≡ true) → (IsErrOf said unread.Memory → now.open_ ≡ true) → IfErr said (λ why. why ≢ unread.Memory → now ≡ closed_over now.disk) → IsStoreOf now_s now
store_after_files s now_s now (Ok x) is_open ok down memory stays open_ closed = store_stays now_s now (ok ∙ is_open) stays
store_after_files s now_s now (Err unread.Memory) is_open ok down memory stays open_ closed = store_stays now_s now (memory refl ∙ is_open) (open_ refl)
store_after_files s now_s now (Err unread.Disk) is_open ok down memory stays open_ closed = subst (λ (x : Standing). IsStoreOf x now) (sym (down (λ e. cc))) (closed (λ e. cc))
store_after_files s now_s now (Err (unread.Form file)) is_open ok down memory stays open_ closed = subst (λ (x : Standing). IsStoreOf x now) (sym (down (λ e. cc))) (closed (λ e. cc))

module _ {D : Type 0} (s : Standing) (tenure : Option ℕ) (begun : ℕ) (work : Work) (before now : StoreState D) where
  -- a machine whose store is closed
  pub shut_is : (now_s : Standing) → now_s ≡ standing.Down → now ≡ closed_over now.disk → machine_of now_s tenure begun work now ≡ shut_machine standing.Down (machine_of s tenure begun work before) now.disk
  shut_is now_s down closed = ap (λ (x : Standing). machine_of x tenure begun work now) down ∙ ap (machine_of standing.Down tenure begun work) closed

  -- one of whose store the points changed, and its disk
  pub moved_is : now.fence ≡ before.fence → machine_of s tenure begun work now ≡ record (machine_of s tenure begun work before) { disk = now.disk; buffered = now.buffered; content = now.content }
  moved_is same = ap (λ (f : ℕ). let m : MachineState D = record { standing = s; tenure = tenure; begun = begun; fence = f; buffered = now.buffered; content = now.content; disk = now.disk; work = work } in m) same
