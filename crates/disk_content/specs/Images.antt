-- What a stop may leave of a disk in memory, now and since each moment of the past.
use Rattle.std.specs.Prelude.{◌≡◌, ◌⊎◌, ⊤, ℕ, ◌+◌, ◌≤◌, Bool, true, false, not, ◌&&◌, ◌||◌, nat_lt, List, [], ◌∷◌, drop, length, get_or, Option, Some, None}
use Rattle.std.proofs.Common.{inl, inr, ⊎_elim, sym, zero, suc, arith}
use Rattle.std.proofs.lemmas.Option.{none-some}
use Rattle.std.specs.Ordering.{eq_by_cmp}
use Rattle.std.specs.FinMap.{get}
use Rattle.std.proofs.Math.Nat.{ℕ_set}
use Rattle.std.proofs.Math.Bridge.{le_prop}
use Rattle.std.specs.declared.snapshot.Snapshot.{Snapshot}
use Rattle.m3_outside.specs.declared.file_name.FileName.{FileName}
use Rattle.m3_outside.specs.Files.{Files, name_cmp}
use Rattle.m3_outside.specs.DiskState.{DiskState, IsLawfulDisk}
use Rattle.disk_content.specs.Writes.{PendingWrite}
use Rattle.disk_content.specs.Contents.{Content, FitsFile, AllFit}

-- whether the write covers this byte of its file
abbrev pub in_range : PendingWrite → ℕ → Bool
in_range w i = not (nat_lt i w.at) && nat_lt i (w.at + length w.bytes)

-- whether one of the writes covers this byte of this file
abbrev pub covered : List PendingWrite → FileName → ℕ → Bool
covered [] q i = false
covered (w ∷ ws) q i = (eq_by_cmp name_cmp q w.name && in_range w i) || covered ws q i

-- bytes that the writes cover are free, all others are as synced
pub record Left (ws : List PendingWrite) (q : FileName) (synced left : List ℕ) : Type 0 where
  pub same_length : length left ≡ length synced
  pub outside : (i : ℕ) → covered ws q i ≡ false → get_or left i 0 ≡ get_or synced i 0

abbrev pub MayLeave : List PendingWrite → FileName → Option (List ℕ) → Option (List ℕ) → Type 0
MayLeave ws q None None = ⊤
MayLeave ws q None (Some left) = ⊥
MayLeave ws q (Some synced) None = ⊥
MayLeave ws q (Some synced) (Some left) = Left ws q synced left

-- what a stop may leave
abbrev pub ImagesOf : Content → Files → Type 0
ImagesOf c files = (q : FileName) → MayLeave c.pending.writes q (get c.synced q) (get files q)

-- what reads give, a stop may leave, and each pending write lies in its file
pub record IsSound (c : Content) : Type 0 where
  pub read_is_image : ImagesOf c c.seen
  pub fit : AllFit c.pending.writes c.synced

Left-prop : (ws : List PendingWrite) (q : FileName) (synced left : List ℕ) → IsProp (Left ws q synced left)
Left-prop ws q synced left = hlevel ℕ_set

MayLeave-prop : (ws : List PendingWrite) (q : FileName) (x y : Option (List ℕ)) → IsProp (MayLeave ws q x y)
MayLeave-prop ws q None None = hlevel
MayLeave-prop ws q None (Some left) = hlevel
MayLeave-prop ws q (Some synced) None = hlevel
MayLeave-prop ws q (Some synced) (Some left) = Left-prop ws q synced left

FitsFile-prop : (w : PendingWrite) (o : Option (List ℕ)) → IsProp (FitsFile w o)
FitsFile-prop w None = hlevel
FitsFile-prop w (Some file) = le_prop

AllFit-prop : (ws : List PendingWrite) (files : Files) → IsProp (AllFit ws files)
AllFit-prop [] files = hlevel
AllFit-prop (w ∷ ws) files = λ a b i. (FitsFile-prop w (get files w.name) a.0 b.0 i, AllFit-prop ws files a.1 b.1 i)

pub IsSound-prop : (c : Content) → IsProp (IsSound c)
IsSound-prop c a b = λ i. record {
  read_is_image = λ q. MayLeave-prop c.pending.writes q (get c.synced q) (get c.seen q) (a.read_is_image q) (b.read_is_image q) i;
  fit = AllFit-prop c.pending.writes c.synced a.fit b.fit i;
}

-- one of these moments left it
abbrev pub HadBeen : List (Snapshot Content) → Files → Type 0
HadBeen [] files = ⊥
HadBeen (v ∷ past) files = ImagesOf v.value files ⊎ HadBeen past files

-- it may be left now, or was at one of the past moments from this one on
abbrev pub SinceOf : Content → List (Snapshot Content) → ℕ → Files → Type 0
SinceOf now past t files = ImagesOf now files ⊎ HadBeen (drop t past) files

-- a disk in memory, as every disk is seen
abbrev pub disk_state : Content → List (Snapshot Content) → ℕ → DiskState
disk_state now past faults = record { tells = true; files = now.seen; images = ImagesOf now; moment = length past; since = SinceOf now past; spare = now.pending.room; faults = faults }

same_absence : (ws : List PendingWrite) (q : FileName) (synced seen left : Option (List ℕ)) → MayLeave ws q synced seen → MayLeave ws q synced left → seen ≡ None → left ≡ None
same_absence ws q None None None is other absent = absent
same_absence ws q None None (Some left) is other absent = absurd other
same_absence ws q None (Some seen) left is other absent = absurd is
same_absence ws q (Some synced) None left is other absent = absurd is
same_absence ws q (Some synced) (Some seen) None is other absent = absurd other
same_absence ws q (Some synced) (Some seen) (Some left) is other absent = absurd (none-some seen (sym absent))

none_left : (past : List (Snapshot Content)) (files : Files) → HadBeen (drop (length past) past) files → ⊥
none_left [] files had = had
none_left (v ∷ past) files had = none_left past files had

had_earlier : (t u : ℕ) (past : List (Snapshot Content)) (files : Files) → t ≤ u → HadBeen (drop u past) files → HadBeen (drop t past) files
had_earlier zero zero past files le had = had
had_earlier zero (suc u) [] files le had = had
had_earlier zero (suc u) (v ∷ past) files le had = inr (had_earlier zero u past files (omega arith) had)
had_earlier (suc t) zero past files le had = absurd (omega arith)
had_earlier (suc t) (suc u) [] files le had = had
had_earlier (suc t) (suc u) (v ∷ past) files le had = had_earlier t u past files (omega arith) had

pub lawful : (now : Content) (past : List (Snapshot Content)) (faults : ℕ) → IsSound now → IsLawfulDisk (disk_state now past faults)
lawful now past faults sound = record {
  read_is_image = λ tells. sound.read_is_image;
  same_names = λ tells files image q.
      let is = sound.read_is_image q in
      let other = image q in
      (same_absence now.pending.writes q (get now.synced q) (get now.seen q) (get files q) is other, same_absence now.pending.writes q (get now.synced q) (get files q) (get now.seen q) other is);
  counts_now = λ t files le image. inl image;
  counts_later = λ t u files le left. ⊎_elim (λ (image : ImagesOf now files). inl image) (λ (had : HadBeen (drop u past) files). inr (had_earlier t u past files le had)) left;
  only_now = λ files left. ⊎_elim (λ (image : ImagesOf now files). image) (λ (had : HadBeen (drop (length past) past) files). absurd (none_left past files had)) left;
}
