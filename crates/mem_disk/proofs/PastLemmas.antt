-- A call of a disk in memory moves its past on by one moment, or leaves it.
use Rattle.std.proofs.Common.{◌≡◌, ◌⊎◌, inl, inr, ⊎_elim, ℕ, zero, suc, ◌≤◌, List, [], ◌∷◌, ◌++◌, length, drop, refl, sym, ap, subst, arith, length-append}
use Rattle.std.specs.FinMap.{get}
use Rattle.std.specs.declared.snapshot.Snapshot.{Snapshot}
use Rattle.m3_outside.specs.Causes.{CountsFaults}
use Rattle.m3_outside.specs.Files.{Files, Stays}
use Rattle.m3_outside.specs.DiskState.{StepOf, Elapses}
use Rattle.m3_outside.specs.DiskCalls.{LeavesFiles}
use Rattle.disk_content.specs.Contents.{Content}
use Rattle.disk_content.specs.Writes.{PendingWrite}
use Rattle.disk_content.specs.Images.{MayLeave, ImagesOf, HadBeen, SinceOf, disk_state}

-- what a stop may leave of them is the same
pub record SameImages (c d : Content) : Type 0 where
  pub synced : d.synced ≡ c.synced
  pub writes : d.pending.writes ≡ c.pending.writes

pub same_itself : (c : Content) → SameImages c c
same_itself c = record { synced = refl; writes = refl }

pub same_back : (c d : Content) → SameImages c d → SameImages d c
same_back c d same = record { synced = sym same.synced; writes = sym same.writes }

pub image_as : (c d : Content) → SameImages c d → (files : Files) → ImagesOf c files → ImagesOf d files
image_as c d same files image q = subst (λ (s : Files). MayLeave d.pending.writes q (get s q) (get files q)) (sym same.synced) (subst (λ (ws : List PendingWrite). MayLeave ws q (get c.synced q) (get files q)) (sym same.writes) (image q))

drop_more : (t : ℕ) (past : List (Snapshot Content)) (v : Snapshot Content) → t ≤ length past → drop t (past ++ v ∷ []) ≡ drop t past ++ v ∷ []
drop_more zero past v le = refl
drop_more (suc t) [] v le = absurd (omega arith)
drop_more (suc t) (x ∷ past) v le = drop_more t past v (omega arith)

had_last : (past : List (Snapshot Content)) (v : Snapshot Content) (files : Files) → HadBeen (past ++ v ∷ []) files → HadBeen past files ⊎ ImagesOf v.value files
had_last [] v files (inl h) = inr h
had_last [] v files (inr h) = absurd h
had_last (x ∷ past) v files (inl h) = inl (inl h)
had_last (x ∷ past) v files (inr h) = ⊎_elim (λ (a : HadBeen past files). inl (inr a)) (λ (b : ImagesOf v.value files). inr b) (had_last past v files h)

had_more : (past : List (Snapshot Content)) (v : Snapshot Content) (files : Files) → HadBeen past files ⊎ ImagesOf v.value files → HadBeen (past ++ v ∷ []) files
had_more [] v files (inl h) = absurd h
had_more [] v files (inr h) = inl h
had_more (x ∷ past) v files (inl (inl h)) = inl h
had_more (x ∷ past) v files (inl (inr h)) = inr (had_more past v files (inl h))
had_more (x ∷ past) v files (inr h) = inr (had_more past v files (inr h))

-- a call that keeps the moment before it among the past ones
pub elapses_push : {step : Files → Files → Type 0} (old new : Content) (past later : List (Snapshot Content)) (v : Snapshot Content) (f g : ℕ) → SameImages old v.value → later ≡ past ++ v ∷ []
    → ((files : Files) → ImagesOf new files → StepOf step (ImagesOf old) files) → Elapses step (disk_state old past f) (disk_state new later g)
elapses_push {step} old new past later v f g same more steps = record {
  later = omega (arith, ap length more, length-append past (v ∷ []));
  images = steps;
  nothing_else = λ t files le left. less t files le left;
  keeps = λ t files le left. inr (subst (λ (l : List (Snapshot Content)). HadBeen (drop t l) files) (sym more) (subst (λ (l : List (Snapshot Content)). HadBeen l files) (sym (drop_more t past v le)) (had_more (drop t past) v files (kept t files left))));
}
  where
    kept : (t : ℕ) (files : Files) → SinceOf old past t files → HadBeen (drop t past) files ⊎ ImagesOf v.value files
    kept t files (inl now) = inr (image_as old v.value same files now)
    kept t files (inr had) = inl had

    less : (t : ℕ) (files : Files) → t ≤ length past → SinceOf new later t files → SinceOf old past t files ⊎ StepOf step (ImagesOf old) files
    less t files le (inl now) = inr (steps files now)
    less t files le (inr had) = inl (⊎_elim (λ (a : HadBeen (drop t past) files). inr a) (λ (b : ImagesOf v.value files). inl (image_as v.value old (same_back old v.value same) files b))
        (had_last (drop t past) v files (subst (λ (l : List (Snapshot Content)). HadBeen l files) (drop_more t past v le) (subst (λ (l : List (Snapshot Content)). HadBeen (drop t l) files) more had))))

-- a call that leaves files and images as they were
pub elapses_same : (step : Files → Files → Type 0) → ((files : Files) → step files files) → (old new : Content) (past later : List (Snapshot Content)) (f g : ℕ) → SameImages old new → later ≡ past → Elapses step (disk_state old past f) (disk_state new later g)
elapses_same step still old new past later f g same more = record {
  later = omega (arith, ap length more);
  images = λ files now. record { before = files; was = image_as new old (same_back old new same) files now; stepped = still files };
  nothing_else = λ t files le left. inl (⊎_elim (λ (now : ImagesOf new files). inl (image_as new old (same_back old new same) files now)) (λ (had : HadBeen (drop t later) files). inr (subst (λ (l : List (Snapshot Content)). HadBeen (drop t l) files) more had)) left);
  keeps = λ t files le left. ⊎_elim (λ (now : ImagesOf old files). inl (image_as old new same files now)) (λ (had : HadBeen (drop t past) files). inr (subst (λ (l : List (Snapshot Content)). HadBeen (drop t l) files) (sym more) had)) left;
}

pub counts_as : {P Q : Type 0} {m n : ℕ} → (Q → P) → CountsFaults P m n → CountsFaults Q m n
counts_as reads counts = record { later = counts.later; stays = counts.stays; rose = λ failed. counts.rose (reads failed) }

-- a call that looks at the disk
pub leaves_files : {failed : Type 0} (old new : Content) (past later : List (Snapshot Content)) (f g : ℕ) → new.seen ≡ old.seen → SameImages old new → later ≡ past → old.pending.room ≤ new.pending.room → CountsFaults failed f g
    → LeavesFiles failed (disk_state old past f) (disk_state new later g)
leaves_files old new past later f g seen same more room counts = record {
  proceeds = record { tells = refl; faults = counts; told = λ tells. elapses_same Stays (λ files. refl) old new past later f g same more };
  files = λ tells. seen;
  spare = room;
}
