-- Each call of a disk in memory, from what it holds before to what it holds after.
use Rattle.std.proofs.Common.{◌≡◌, inl, inr, ℕ, ◌≤◌, List, [], ◌∷◌, ◌++◌, length, refl, sym, ap, subst, None, arith}
use Rattle.std.specs.Prelude.{⊤, Result, Ok, Err, IsErrAnd}
use Rattle.std.specs.FinMap.{get, empty, get-empty}
use Rattle.std.specs.declared.snapshot.Snapshot.{Snapshot}
use Rattle.m3_outside.specs.declared.file_name.FileName.{FileName}
use Rattle.m3_outside.specs.declared.failed.Failed.{Failed}
use Rattle.m3_outside.specs.declared.disk_err.DiskErr.{DiskErr}
use Rattle.m3_outside.specs.declared.disk_err.DiskErr.TheVariants.{Memory, Failed as DiskFailed}
use Rattle.m3_outside.specs.Causes.{CountsFaults}
use Rattle.m3_outside.specs.Files.{name_cmp, Files, Stays, DoneOrNot, IsPresent, IsInside}
use Rattle.m3_outside.specs.DiskState.{IsEmpty, StepOf, Becomes}
use Rattle.m3_outside.specs.DiskCalls.{ChangesFiles, Creates, Writes, Syncs, Removes, Restarts}
use Rattle.disk_content.specs.Writes.{PendingWrite}
use Rattle.disk_content.specs.Picks.{picked_files}
use Rattle.disk_content.specs.Contents.{Content, AllFit, IsInBoth, content_after_create, content_after_write, content_after_failed_write, content_after_sync, content_after_remove, content_after_restart}
use Rattle.disk_content.specs.Images.{MayLeave, ImagesOf, IsSound, disk_state}
use Rattle.mem_disk.proofs.PastLemmas.{SameImages, same_itself, same_back, image_as, elapses_push, elapses_same, counts_as}
use Rattle.disk_content.proofs.WriteLemmas.{torn_image, fits_synced, wrote_seen, torn_not}
use Rattle.disk_content.proofs.SyncLemmas.{in_both, image_here, image_synced}
use Rattle.disk_content.proofs.NameLemmas.{image_made, image_gone}
use Rattle.disk_content.proofs.RestartLemmas.{picked_is_image, only_image}

becomes_same : (old new : Content) (past later : List (Snapshot Content)) (f g : ℕ) → new.seen ≡ old.seen → SameImages old new → Becomes (λ files. files) (disk_state old past f) (disk_state new later g)
becomes_same old new past later f g seen same = record { files = seen; images = λ files image. record { before = files; was = image_as new old (same_back old new same) files image; stepped = refl } }

-- a call that makes or takes away no file
pub changes_not : {change : Files → Files} {ok memory failed : Type 0} (old new : Content) (past later : List (Snapshot Content)) (f g : ℕ) → new.seen ≡ old.seen → SameImages old new → later ≡ past → (ok → ⊥) → CountsFaults failed f g
    → ChangesFiles change ok memory failed (disk_state old past f) (disk_state new later g)
changes_not {change} old new past later f g seen same more undone counts = record {
  proceeds = record { tells = refl; faults = counts; told = λ tells. elapses_same (DoneOrNot change) (λ files. inl refl) old new past later f g same more };
  done = λ tells ok. absurd (undone ok);
  undone = λ tells memory. becomes_same old new past later f g seen same;
  done_or_not = λ tells failed. inl (becomes_same old new past later f g seen same);
}

-- a call that does
changes_done : {change : Files → Files} {ok memory failed : Type 0} (old new : Content) (past later : List (Snapshot Content)) (v : Snapshot Content) (f g : ℕ) → SameImages old v.value → later ≡ past ++ v ∷ [] → new.seen ≡ change old.seen
    → ((files : Files) → ImagesOf new files → StepOf (λ before after. after ≡ change before) (ImagesOf old) files) → (memory → ⊥) → (failed → ⊥) → CountsFaults failed f g
    → ChangesFiles change ok memory failed (disk_state old past f) (disk_state new later g)
changes_done {change} old new past later v f g same more seen images enough passed counts = record {
  proceeds = record {
    tells = refl;
    faults = counts;
    told = λ tells. elapses_push old new past later v f g same more (λ files image. let step = images files image in record { before = step.before; was = step.was; stepped = inr step.stepped });
  };
  done = λ tells ok. record { files = seen; images = images };
  undone = λ tells memory. absurd (enough memory);
  done_or_not = λ tells failed. absurd (passed failed);
}

same_value : (old : Content) (v : Snapshot Content) → v.value ≡ old → SameImages old v.value
same_value old v is = record { synced = ap (λ (c : Content). c.synced) is; writes = ap (λ (c : Content). c.pending.writes) is }

pub created : (old new : Content) (past later : List (Snapshot Content)) (v : Snapshot Content) (f g : ℕ) (name : FileName) (size : ℕ) (x : ⊤) → IsSound old → get old.seen name ≡ None → v.value ≡ old → later ≡ past ++ v ∷ []
    → new ≡ content_after_create name size old → CountsFaults ⊥ f g → Creates name size (Ok x) (disk_state old past f) (disk_state new later g)
created old new past later v f g name size x sound absent is more after counts =
    subst (λ (n : Content). Creates name size (Ok x) (disk_state old past f) (disk_state n later g)) (sym after) (record {
      changes = changes_done old (content_after_create name size old) past later v f g (same_value old v is) more refl (image_made old name size sound absent) (λ h. cc) (λ h. cc) (counts_as (λ h. cc) counts);
      spare = omega arith;
    })

pub removed : (old new : Content) (past later : List (Snapshot Content)) (v : Snapshot Content) (f g : ℕ) (name : FileName) (x : ⊤) → IsSound old → IsPresent name old.seen → 1 ≤ old.pending.room → v.value ≡ old → later ≡ past ++ v ∷ [] → new ≡ content_after_remove name old
    → CountsFaults ⊥ f g → Removes name (Ok x) (disk_state old past f) (disk_state new later g)
removed old new past later v f g name x sound present some is more after counts =
    let both : IsInBoth name old = in_both old name sound present in
    subst (λ (n : Content). Removes name (Ok x) (disk_state old past f) (disk_state n later g)) (sym after) (record {
      changes = changes_done old (content_after_remove name old) past later v f g (same_value old v is) more refl (image_gone old name sound both.synced both.synced_is) (λ h. h) (λ h. cc) (counts_as (λ h. cc) counts);
      spare = omega arith;
    })

pub synced : (old new : Content) (past later : List (Snapshot Content)) (v : Snapshot Content) (f g : ℕ) (name : FileName) (x : ⊤) → IsSound old → IsPresent name old.seen → 1 ≤ old.pending.room → v.value ≡ old → later ≡ past ++ v ∷ [] → new ≡ content_after_sync name old
    → CountsFaults ⊥ f g → Syncs name (Ok x) (disk_state old past f) (disk_state new later g)
synced old new past later v f g name x sound present some is more after counts =
    let both : IsInBoth name old = in_both old name sound present in
    subst (λ (n : Content). Syncs name (Ok x) (disk_state old past f) (disk_state n later g)) (sym after) (record {
      proceeds = record { tells = refl; faults = counts_as (λ h. cc) counts; told = λ tells. elapses_push old (content_after_sync name old) past later v f g (same_value old v is) more (image_synced old name sound both) };
      files = λ tells. refl;
      synced = λ tells. image_here old name sound both;
      spare = omega arith;
    })

pub wrote : (old new : Content) (past later : List (Snapshot Content)) (v : Snapshot Content) (f g : ℕ) (name : FileName) (at : ℕ) (bytes : List ℕ) (x : ⊤) → IsSound old → IsInside name at (length bytes) old.seen → 1 ≤ old.pending.room → v.value ≡ old
    → later ≡ past ++ v ∷ [] → new ≡ content_after_write name at bytes old → CountsFaults ⊥ f g → Writes name at bytes (Ok x) (disk_state old past f) (disk_state new later g)
wrote old new past later v f g name at bytes x sound inside some is more after counts =
    let w : PendingWrite = record { name = name; at = at; bytes = bytes } in
    subst (λ (n : Content). Writes name at bytes (Ok x) (disk_state old past f) (disk_state n later g)) (sym after) (record {
      proceeds = record {
        tells = refl;
        faults = counts_as (λ h. cc) counts;
        told = λ tells. elapses_push old (content_after_write name at bytes old) past later v f g (same_value old v is) more (torn_image old (content_after_write name at bytes old) w (fits_synced old w sound inside) refl refl);
      };
      torn = λ tells. record { bytes = bytes; same_length = refl; wrote = wrote_seen old name at bytes inside };
      wrote = λ tells. wrote_seen old name at bytes inside;
      spare = omega arith;
    })

pub failed_write : (old new : Content) (past later : List (Snapshot Content)) (v : Snapshot Content) (f g : ℕ) (name : FileName) (at : ℕ) (bytes : List ℕ) (e : Failed) → IsSound old → IsInside name at (length bytes) old.seen → 1 ≤ old.pending.room → v.value ≡ old
    → later ≡ past ++ v ∷ [] → new ≡ content_after_failed_write name at bytes old → CountsFaults ⊤ f g → Writes name at bytes (Err e) (disk_state old past f) (disk_state new later g)
failed_write old new past later v f g name at bytes e sound inside some is more after counts =
    let w : PendingWrite = record { name = name; at = at; bytes = bytes } in
    subst (λ (n : Content). Writes name at bytes (Err e) (disk_state old past f) (disk_state n later g)) (sym after) (record {
      proceeds = record {
        tells = refl;
        faults = counts_as (λ h. tt) counts;
        told = λ tells. elapses_push old (content_after_failed_write name at bytes old) past later v f g (same_value old v is) more (torn_image old (content_after_failed_write name at bytes old) w (fits_synced old w sound inside) refl refl);
      };
      torn = λ tells. torn_not old.seen name at (length bytes) inside;
      wrote = λ tells. tt;
      spare = omega arith;
    })

pub restarted : (old new : Content) (past later : List (Snapshot Content)) (v : Snapshot Content) (f g pick : ℕ) (x : ⊤) → IsSound old → v.value ≡ old → later ≡ past ++ v ∷ [] → new ≡ content_after_restart pick old → CountsFaults ⊥ f g
    → Restarts (Ok x) (disk_state old past f) (disk_state new later g)
restarted old new past later v f g pick x sound is more after counts =
    let made : ImagesOf old (picked_files pick old.pending.writes old.synced) = picked_is_image old pick sound in
    subst (λ (n : Content). Restarts (Ok x) (disk_state old past f) (disk_state n later g)) (sym after) (record {
      proceeds = record {
        tells = refl;
        faults = counts_as (λ h. cc) counts;
        told = λ tells. elapses_push old (content_after_restart pick old) past later v f g (same_value old v is) more
            (λ files image. record { before = files; was = subst (ImagesOf old) (sym (only_image (picked_files pick old.pending.writes old.synced) files image)) made; stepped = refl });
      };
      image = λ tells. made;
      only = λ tells files image. only_image (picked_files pick old.pending.writes old.synced) files image;
      refused = λ tells h. cc;
      spare = omega arith;
    })

pub not_restarted : (e : DiskErr) (old new : Content) (past later : List (Snapshot Content)) (f g : ℕ) → new ≡ old → later ≡ past → CountsFaults (e ≡ DiskFailed) f g → Restarts (Err e) (disk_state old past f) (disk_state new later g)
not_restarted e old new past later f g after more counts = record {
  proceeds = record { tells = refl; faults = counts_as (λ h. cc) counts; told = λ tells. elapses_same Stays (λ files. refl) old new past later f g (record { synced = ap (λ (c : Content). c.synced) after; writes = ap (λ (c : Content). c.pending.writes) after }) more };
  image = λ tells. tt;
  only = λ tells. tt;
  refused = λ tells h. ap (λ (c : Content). c.seen) after;
  spare = omega (arith, ap (λ (c : Content). c.pending.room) after);
}

pub not_synced : (e : Failed) (old : Content) (past : List (Snapshot Content)) (f g : ℕ) (name : FileName) → CountsFaults ⊤ f g → Syncs name (Err e) (disk_state old past f) (disk_state old past g)
not_synced e old past f g name counts = record {
  proceeds = record { tells = refl; faults = counts_as (λ h. tt) counts; told = λ tells. elapses_same Stays (λ files. refl) old old past past f g (same_itself old) refl };
  files = λ tells. refl;
  synced = λ tells. tt;
  spare = omega arith;
}

-- where there is more room, the content is as sound
pub sound_roomier : (old new : Content) → new.seen ≡ old.seen → SameImages old new → IsSound old → IsSound new
sound_roomier old new seen same sound = record {
  read_is_image = subst (ImagesOf new) (sym seen) (image_as old new same old.seen sound.read_is_image);
  fit = subst (λ ws. AllFit ws new.synced) (sym same.writes) (subst (AllFit old.pending.writes) (sym same.synced) sound.fit);
}

pub sound_new : IsSound (record { seen = empty; synced = empty; pending = record { writes = []; room = 0 } })
sound_new = record {
  read_is_image = λ q. subst (λ o. MayLeave [] q o o) (sym (get-empty name_cmp q)) tt;
  fit = tt;
}

-- a refusal by `?` is want of memory
pub is_memory : {X : Type 0} (r : Result X DiskErr) → IsErrAnd r (λ e. e ≡ Memory) → r ≡ Err Memory
is_memory (Ok x) h = absurd h
is_memory (Err e) h = ap Err h

-- a disk on which nothing is
pub empty_new : (past : List (Snapshot Content)) (f : ℕ) → IsEmpty (disk_state (record { seen = empty; synced = empty; pending = record { writes = []; room = 0 } }) past f)
empty_new past f = record { files = λ tells. refl; images = λ tells files image. only_image empty files image }
