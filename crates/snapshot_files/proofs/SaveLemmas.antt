-- The files of a snapshot, and what becomes of them while they are made.
use Rattle.std.proofs.Common.{◌≡◌, inl, inr, ⊎_elim, ℕ, List, [], ◌∷◌, true, false, refl, sym, ap, ◌∙◌, arith}
use Rattle.std.specs.FinMap.{get}
use Rattle.sha2.specs.Sha256.{sha256}
use Rattle.fileset_check.specs.m3_model.Members.{IsIn}
use Rattle.fileset_check.specs.m3_outside.declared.file_name.FileName.{FileName}
use Rattle.fileset_check.specs.m3_outside.Files.{Files, IsAbsent}
use Rattle.fileset_check.specs.m3_outside.DiskState.{DiskState, StepOf, Elapses, Becomes, IsLawfulDisk}
use Rattle.fileset_check.proofs.m3_outside_proofs.Names.{get_here, get_apart}
use Rattle.fileset_check.proofs.m3_outside_proofs.Moments.{elapses_as, step_as}
use Rattle.fileset_check.specs.wire_bytes.Snapshots.{Snapshot, IsSnapshot, snapshot_bytes}
use Rattle.fileset_check.specs.shard_files.Parts.{is_open, snapshot_data, snapshot_checkpoint, SnapshotHolds}
use Rattle.fileset_check.specs.shard_files.Steps.{IsOfSnapshot, MaySave, Saved, SavedNone}
use Rattle.fileset_write.specs.declared.new_file.NewFile.{NewFile}
use Rattle.fileset_write.specs.Putting.{names_of, with_files, with_volume, MayPutAll, PutNone}
use Rattle.fileset_write.proofs.FilesLemmas.{made_others}
use Rattle.fileset_write.proofs.WriteLemmas.{as_given}
use Rattle.snapshot_files.specs.Snaps.{IsNew}

data_apart : (number : ℕ) → snapshot_data number ≡ snapshot_checkpoint number → ⊥
data_apart number same = let kinds = ap (λ (q : FileName). q.kind) same in omega (arith, kinds)

module _ (s : Snapshot) where
  abbrev pub fs : List NewFile
  fs = record { name = snapshot_data s.number; bytes = snapshot_bytes s } ∷ []

  abbrev pub name : FileName
  name = snapshot_checkpoint s.number

  abbrev pub kept : List ℕ
  kept = sha256 (snapshot_bytes s)

  named : (q : FileName) → IsIn (name ∷ names_of fs) q → IsOfSnapshot s.number q
  named q (inl e) = inr (sym e)
  named q (inr (inl e)) = inl (sym e)
  named q (inr (inr none)) = absurd none

  none : (x y : Files) → PutNone fs name x y → SavedNone s.number x y
  none x y put = record { others = λ q out. put.others q (λ m. out (named q m)); closed = put.shut }

  same_none : (x : Files) → IsAbsent name x → SavedNone s.number x x
  same_none x gone = record { others = λ q out. refl; closed = ap is_open gone }

  none_may : (x y : Files) → SavedNone s.number x y → MaySave s x y
  none_may x y put = record { others = put.others; either = inl put.closed }

  module _ (values : IsSnapshot s) where
    holds : (x y : Files) → y ≡ with_volume fs name kept x → SnapshotHolds s y
    holds x y e = record {
      values = values;
      body = ap (λ (f : Files). get f (snapshot_data s.number)) e ∙ get_apart (with_files fs x) name (1 ∷ kept) (snapshot_data s.number) (data_apart s.number) ∙ get_here x (snapshot_data s.number) (snapshot_bytes s);
      checkpoint = ap (λ (f : Files). get f name) e ∙ get_here (with_files fs x) name (1 ∷ kept);
    }

    may : (x y : Files) → MayPutAll fs name kept x y → MaySave s x y
    may x y put = record {
      others = λ q out. put.others q (λ m. out (named q m));
      either = ⊎_elim (λ (shut : is_open (get y name) ≡ false). inl shut) (λ (is : y ≡ with_volume fs name kept x). inr (holds x y is)) put.either;
    }

    saved : (x y : Files) → y ≡ with_volume fs name kept x → Saved s x y
    saved x y e = record {
      others = λ q out.
          ap (λ (f : Files). get f q) e
          ∙ get_apart (with_files fs x) name (1 ∷ kept) q (λ same. out (inr same))
          ∙ made_others fs x q (λ m. out (named q (inr m)));
      holds = holds x y e;
    }

    module _ (a b : DiskState) where
      pub moment : Elapses (MayPutAll fs name kept) a b → Elapses (MaySave s) a b
      moment goes = elapses_as a b (λ x y image put. may x y put) goes

      pub files : MayPutAll fs name kept a.files b.files → MaySave s a.files b.files
      files put = may a.files b.files put

      pub none_left : ((c : Files) → b.images c → StepOf (PutNone fs name) a.images c) → (c : Files) → b.images c → StepOf (SavedNone s.number) a.images c
      none_left put c image = step_as (λ x y was put. none x y put) c (put c image)

      pub acknowledged : Becomes (with_volume fs name kept) a b → (c : Files) → b.images c → StepOf (Saved s) a.images c
      acknowledged done c image = step_as (λ x y was e. saved x y e) c (done.images c image)

      pub there : Becomes (with_volume fs name kept) a b → Saved s a.files b.files
      there done = saved a.files b.files done.files

  -- what is said of a file, of a name and of a digest is said of those that they are
  pub given : (P : List NewFile → FileName → List ℕ → Type 0) (q n : FileName) (bytes digest : List ℕ) → q ≡ snapshot_data s.number → bytes ≡ snapshot_bytes s → n ≡ name → digest ≡ kept
      → P (record { name = q; bytes = bytes } ∷ []) n digest → P fs name kept
  given P q n bytes digest one two three four p = as_given P (record { name = q; bytes = bytes } ∷ []) fs n name digest kept (λ i. record { name = one i; bytes = two i } ∷ []) three four p

  -- ---- nothing was called yet

  module _ (a : DiskState) (lawful : IsLawfulDisk a) (told : a.tells ≡ true) (new : IsNew s.number a.files) where
    absent_each : (x : Files) → a.images x → IsAbsent name x
    absent_each x image = (lawful.same_names told x image name).0 (new name (inr refl))

    pub moment0 : Elapses (MaySave s) a a
    moment0 = record { later = omega arith; images = λ c image. record { before = c; was = image; stepped = none_may c c (same_none c (absent_each c image)) }; nothing_else = λ m c le left. inl left; keeps = λ m c le left. left }

    pub none0 : (c : Files) → a.images c → StepOf (SavedNone s.number) a.images c
    none0 c image = record { before = c; was = image; stepped = same_none c (absent_each c image) }
