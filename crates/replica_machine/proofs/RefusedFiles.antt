-- A begin that is refused as not owned changes no file.
use Rattle.std.proofs.Common.{◌≡◌, ⊎_elim, refl, sym, ◌∙◌, Result, Ok, Err}
use Rattle.std.specs.Prelude.{◌≢◌, IfErr, IsErrOf}
use Rattle.m3_model.specs.declared.reason.Reason.{Reason}
use Rattle.m3_model.specs.declared.reason.Reason.TheVariants as reason
use Rattle.m3_outside.specs.Files.{Stays}
use Rattle.m3_outside.specs.DiskState.{DiskState, Elapses, Becomes}
use Rattle.shard_store.specs.shard_files.declared.load_err.LoadErr.{LoadErr}
use Rattle.shard_store.specs.shard_files.declared.load_err.LoadErr.TheVariants as failures
use Rattle.replica_machine.specs.Boots.{MayNotLoad}
use Rattle.shard_store.specs.shard_files.Damage.{OfForm, OfDigest}
use Rattle.replica_machine.specs.Damages.{told_of}
use Rattle.replica_machine.specs.Machines.{IsOwn}

-- what was only synced and read
pub read_only : (old new : DiskState) → Elapses Stays old new → new.files ≡ old.files → Becomes (λ files. files) old new
read_only old new stays same = record { files = same; images = stays.images }

pub untouched : (d : DiskState) → Becomes (λ files. files) d d
untouched d = record { files = refl; images = λ c image. record { before = c; was = image; stepped = refl } }

owned_by : {X : Type 0} (why other : Reason) → why ≡ other → other ≢ reason.NotOwned → (let r : Result X Reason = Err why in ¬ (IsErrOf r reason.NotOwned))
owned_by why other is apart refused = let same : why ≡ reason.NotOwned = cc in apart (sym is ∙ same)

not_memory : reason.Memory ≢ reason.NotOwned
not_memory e = cc

not_disk : reason.Disk ≢ reason.NotOwned
not_disk e = cc

-- where only memory and the disk refuse, nothing is refused so
pub owned : {X : Type 0} (r : Result X Reason) → IfErr r IsOwn → ¬ (IsErrOf r reason.NotOwned)
owned (Ok x) own refused = cc
owned (Err why) own refused = ⊎_elim (λ (memory : why ≡ reason.Memory). owned_by why reason.Memory memory not_memory refused) (λ (fault : why ≡ reason.Disk). owned_by why reason.Disk fault not_disk refused) own

-- nor where the files couldn't be read
pub unread_owned : {X : Type 0} (e : LoadErr) (why : Reason) → MayNotLoad e why → (let r : Result X Reason = Err why in ¬ (IsErrOf r reason.NotOwned))
unread_owned failures.Disk why told refused = owned_by why reason.Disk told not_disk refused
unread_owned failures.Memory why told refused = owned_by why reason.Memory told not_memory refused
unread_owned (failures.Digest name kept found) why either refused =
    ⊎_elim (λ (memory : why ≡ reason.Memory). owned_by why reason.Memory memory not_memory refused) (λ (damage : why ≡ reason.Corrupt (told_of (OfDigest name kept found))). owned_by why (reason.Corrupt (told_of (OfDigest name kept found))) damage (λ e. cc) refused) either
unread_owned (failures.Form name at) why either refused =
    ⊎_elim (λ (memory : why ≡ reason.Memory). owned_by why reason.Memory memory not_memory refused) (λ (damage : why ≡ reason.Corrupt (told_of (OfForm name at))). owned_by why (reason.Corrupt (told_of (OfForm name at))) damage (λ e. cc) refused) either
