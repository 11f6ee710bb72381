-- The files of a new volume, and what becomes of them while they are made.
use Rattle.std.proofs.Common.{◌≡◌, inl, inr, ⊎_elim, ℕ, ◌<◌, ◌==◌, ◌&&◌, ◌||◌, Bool, true, false, not, List, [], ◌∷◌, map, refl, sym, ap, subst, ◌∙◌, Some, rules}
use Rattle.std.specs.List.{list_any}
use Rattle.std.specs.FinMap.{get}
use Rattle.std.proofs.Math.Bool.{or-true}
use Rattle.sha2.specs.Sha256.{sha256}
use Rattle.shard_files.specs.m3_model.Members.{IsIn}
use Rattle.shard_files.specs.m3_model.declared.limits.TheConstants.{NUMBER_END}
use Rattle.shard_files.proofs.m3_model_proofs.MemberLemmas.{IsIn-map, map-IsIn}
use Rattle.shard_files.specs.m3_model.declared.point.Series.{Series}
use Rattle.shard_files.specs.m3_outside.declared.file_name.FileName.{FileName}
use Rattle.shard_files.specs.m3_outside.Files.{Files, IsAbsent}
use Rattle.shard_files.specs.m3_outside.DiskState.{DiskState, StepOf, Elapses, Becomes, IsLawfulDisk}
use Rattle.shard_files.specs.m3_outside.DiskCalls.{LeavesFiles}
use Rattle.shard_files.proofs.m3_outside_proofs.Names.{get_here, get_apart}
use Rattle.shard_files.proofs.m3_outside_proofs.Moments.{elapses_as, elapses_then}
use Rattle.shard_files.specs.wire_bytes.Volumes.{VolumeHead, IsVolume, Part, Info, Summaries, Index, Data, Bloom, Digests, Checkpoint, part_bytes, digests_bytes}
use Rattle.shard_files.specs.Parts.{is_open, part_of, VolumeHolds}
use Rattle.shard_files.specs.Steps.{next_volume, volume_after, files_of_volume, IsPartOf, MayWrite, Wrote, WroteNone}
use Rattle.shard_files.proofs.NextLemmas.{next_volume_is_new}
use Rattle.fileset_write.specs.declared.new_file.NewFile.{NewFile}
use Rattle.fileset_write.specs.Putting.{AreApart, AreAbsent, names_of, with_file, with_files, with_volume, MayPutAll, PutNone}
use Rattle.fileset_write.specs.NewVolumes.{new_file, new_files}
use Rattle.fileset_write.proofs.FilesLemmas.{made_others}

-- ---- names apart by their kinds

pub all_apart : List ℕ → Bool
all_apart [] = true
all_apart (k ∷ ks) = not (list_any (λ j. j == k) ks) && all_apart ks

any_in : (ks : List ℕ) (k : ℕ) → IsIn ks k → list_any (λ j. j == k) ks ≡ true
any_in [] k m = absurd m
any_in (j ∷ ks) k (inl same) = let h : (j == k) ≡ true = search (rules, same) in ap (λ (b : Bool). b || list_any (λ i. i == k) ks) h
any_in (j ∷ ks) k (inr rest) = ap (λ (b : Bool). (j == k) || b) (any_in ks k rest) ∙ or-true (j == k)

both_true : (a b : Bool) → (not a && b) ≡ true → (a ≡ false) × (b ≡ true)
both_true true b e = absurd (cc)
both_true false b e = (refl, e)

abbrev pub kinds : List FileName → List ℕ
kinds names = map (λ (q : FileName). q.kind) names

pub apart_by_kinds : (names : List FileName) → all_apart (kinds names) ≡ true → AreApart names
unfolding all_apart
apart_by_kinds [] e = tt
apart_by_kinds (name ∷ names) e =
    let parts = both_true (list_any (λ j. j == name.kind) (kinds names)) (all_apart (kinds names)) e in (
      (λ other m same.
          let hit = any_in (kinds names) name.kind (subst (IsIn (kinds names)) (ap (λ (q : FileName). q.kind) same) (map-IsIn (λ (q : FileName). q.kind) names other m)) in
          cc (sym hit ∙ parts.0)),
      apart_by_kinds names parts.1,
    )

pub seven_kinds : (ns start number : ℕ) → all_apart (kinds (files_of_volume ns start number)) ≡ true
unfolding all_apart
seven_kinds ns start number = refl

-- each of the files is there with its bytes
have : (fs : List NewFile) (f : NewFile) (x : Files) → AreApart (names_of fs) → IsIn fs f → get (with_files fs x) f.name ≡ Some f.bytes
have [] f x apart m = absurd m
have (g ∷ fs) f x apart (inl same) =
    ap (λ (k : NewFile). get (with_files fs (with_file g.name g.bytes x)) k.name) (sym same)
    ∙ made_others fs (with_file g.name g.bytes x) g.name (λ m. apart.0 g.name m refl)
    ∙ get_here x g.name g.bytes
    ∙ ap (λ (k : NewFile). Some k.bytes) same
have (g ∷ fs) f x apart (inr rest) = have fs f (with_file g.name g.bytes x) apart.1 rest

-- the bounds of a volume hold at any number that is low enough
pub numbered : (ns start size number : ℕ) (rows : List Series) → number < NUMBER_END → IsVolume (record { format = 1; ns = ns; start = start; size = size; number = 0 }) rows
    → IsVolume (record { format = 1; ns = ns; start = start; size = size; number = number }) rows
numbered ns start size number rows lt w = record {
  head = record { format = w.head.format; ns = w.head.ns; start = w.head.start; size_low = w.head.size_low; size_high = w.head.size_high; number = lt };
  some = w.some;
  counted = w.counted;
  points = w.points;
  row = w.row;
  filled = w.filled;
  small = w.small;
  ids = w.ids;
}

-- what is said of files, of a name and of a digest is said of those that they are
pub as_given : (P : List NewFile → FileName → List ℕ → Type 0) (gs fs : List NewFile) (q name : FileName) (given digest : List ℕ) → gs ≡ fs → q ≡ name → given ≡ digest → P gs q given → P fs name digest
as_given P gs fs q name given digest one two three p = subst (λ d. P fs name d) three (subst (λ n. P fs n given) two (subst (λ l. P l q given) one p))

module _ (ns start size number : ℕ) (rows : List Series) where
  abbrev v : VolumeHead
  v = record { format = 1; ns = ns; start = start; size = size; number = number }

  abbrev name : FileName
  name = part_of Checkpoint v

  abbrev fs : List NewFile
  fs = new_files v rows

  abbrev parts : List Part
  parts = Checkpoint ∷ Info ∷ Summaries ∷ Index ∷ Data ∷ Bloom ∷ Digests ∷ []

  pub apart : AreApart (name ∷ names_of fs)
  unfolding all_apart
  apart = apart_by_kinds (name ∷ names_of fs) refl

  named : (q : FileName) → IsIn (name ∷ names_of fs) q → IsPartOf v q
  named q m = let p = IsIn-map (λ part. part_of part v) parts q m in record { part = p.0; is = sym p.2 }

  module _ (values : IsVolume v rows) where
    holds : (x y : Files) → y ≡ with_volume fs name (sha256 (digests_bytes v rows)) x → VolumeHolds v rows y
    holds x y e = record { values = values; read = refl; parts = λ part. ap (λ (f : Files). get f (part_of part v)) e ∙ at part }
      where
        behind_it : (part : Part) → (part_of part v ≡ name → ⊥) → IsIn fs (new_file v rows part) → get (with_volume fs name (sha256 (digests_bytes v rows)) x) (part_of part v) ≡ Some (part_bytes part v rows)
        behind_it part other m = get_apart (with_files fs x) name (1 ∷ sha256 (digests_bytes v rows)) (part_of part v) other ∙ have fs (new_file v rows part) x apart.1 m

        kind_apart : (j : ℕ) (q : FileName) → q.kind ≡ j → (j == 7) ≡ false → q ≡ name → ⊥
        kind_apart j q is low same =
            let seven : j ≡ 7 = sym is ∙ ap (λ (f : FileName). f.kind) same in
            let high : (j == 7) ≡ true = search (rules, seven) in
            cc (sym low ∙ high)

        at : (part : Part) → get (with_volume fs name (sha256 (digests_bytes v rows)) x) (part_of part v) ≡ Some (part_bytes part v rows)
        at Info = behind_it Info (kind_apart 1 _ refl refl) (inl refl)
        at Summaries = behind_it Summaries (kind_apart 2 _ refl refl) (inr (inl refl))
        at Index = behind_it Index (kind_apart 3 _ refl refl) (inr (inr (inl refl)))
        at Data = behind_it Data (kind_apart 4 _ refl refl) (inr (inr (inr (inl refl))))
        at Bloom = behind_it Bloom (kind_apart 5 _ refl refl) (inr (inr (inr (inr (inl refl)))))
        at Digests = behind_it Digests (kind_apart 6 _ refl refl) (inr (inr (inr (inr (inr (inl refl))))))
        at Checkpoint = get_here (with_files fs x) name (1 ∷ sha256 (digests_bytes v rows))

    may : (x y : Files) → MayPutAll fs name (sha256 (digests_bytes v rows)) x y → MayWrite v rows x y
    may x y put = record {
      others = λ q out. put.others q (λ m. out (named q m));
      either = ⊎_elim (λ (shut : is_open (get y name) ≡ false). inl shut) (λ (is : y ≡ with_volume fs name (sha256 (digests_bytes v rows)) x). inr (holds x y is)) put.either;
    }

    wrote : (x y : Files) → y ≡ with_volume fs name (sha256 (digests_bytes v rows)) x → Wrote v rows x y
    wrote x y e = record {
      others = λ q out.
          ap (λ (f : Files). get f q) e
          ∙ get_apart (with_files fs x) name (1 ∷ sha256 (digests_bytes v rows)) q (λ same. out (record { part = Checkpoint; is = same }))
          ∙ made_others fs x q (λ m. out (named q (inr m)));
      holds = holds x y e;
    }

  none : (x y : Files) → PutNone fs name x y → WroteNone v x y
  none x y put = record { others = λ q out. put.others q (λ m. out (named q m)); closed = put.shut }

  -- ---- the names are found, and then all is made

  module _ (a : DiskState) (number_is : number ≡ next_volume ns start a.files) where
    pub absent : AreAbsent (name ∷ names_of fs) a.files
    absent q m =
        let p = named q m in
        ap (get a.files) (p.is ∙ ap (λ n. part_of p.part (record { format = 1; ns = ns; start = start; size = size; number = n })) number_is) ∙ next_volume_is_new 1 ns start size a.files p.part

    pub absent_each : IsLawfulDisk a → a.tells ≡ true → (x : Files) → a.images x → IsAbsent name x
    absent_each lawful t x image = (lawful.same_names t x image name).0 (absent name (inl refl))

    abbrev next : VolumeHead
    next = volume_after 1 ns start size a.files

    module _ (F : Type 0) (lawful : IsLawfulDisk a) (b : DiskState) (one : LeavesFiles F a b) (told : a.tells ≡ true) where
      as_next : (P : VolumeHead → Type 0) → P v → P next
      as_next P = subst (λ n. P (record { format = 1; ns = ns; start = start; size = size; number = n })) number_is

      same_none : (x y : Files) → IsAbsent name x → y ≡ x → WroteNone v x y
      same_none x y gone e = record { others = λ q out. ap (λ (f : Files). get f q) e; closed = ap is_open (ap (λ (f : Files). get f name) e ∙ gone) }

      none_may : (x y : Files) → WroteNone v x y → MayWrite v rows x y
      none_may x y put = record { others = put.others; either = inl put.closed }

      pub moment1 : Elapses (MayWrite next rows) a b
      moment1 = as_next (λ w. Elapses (MayWrite w rows) a b) (elapses_as a b (λ x y image e. none_may x y (same_none x y (absent_each lawful told x image) e)) (one.proceeds.told told))

      pub files1 : MayWrite next rows a.files b.files
      files1 = as_next (λ w. MayWrite w rows a.files b.files) (none_may a.files b.files (same_none a.files b.files (absent name (inl refl)) (one.files told)))

      pub none1 : (c : Files) → b.images c → StepOf (WroteNone next) a.images c
      none1 c image = as_next (λ w. StepOf (WroteNone w) a.images c)
          (let step = (one.proceeds.told told).images c image in record { before = step.before; was = step.was; stepped = same_none step.before c (absent_each lawful told step.before step.was) step.stepped })

      pub not_there1 : WroteNone next a.files b.files
      not_there1 = as_next (λ w. WroteNone w a.files b.files) (same_none a.files b.files (absent name (inl refl)) (one.files told))

      pub absent_b : AreAbsent (name ∷ names_of fs) b.files
      absent_b q m = ap (λ (f : Files). get f q) (one.files told) ∙ absent q m

      pub absent_each_b : (x : Files) → b.images x → IsAbsent name x
      absent_each_b x image =
          let step = (one.proceeds.told told).images x image in
          ap (λ (f : Files). get f name) step.stepped ∙ absent_each lawful told step.before step.was

      module _ (values : IsVolume v rows) (c : DiskState) where
        pub moment2 : Elapses (MayPutAll fs name (sha256 (digests_bytes v rows))) b c → Elapses (MayWrite next rows) a c
        moment2 two = as_next (λ w. Elapses (MayWrite w rows) a c)
            (elapses_then a b c (λ x y image e. none_may x y (same_none x y (absent_each lawful told x image) e))
            (λ x y z image e image1 put. may values x z (subst (λ (f : Files). MayPutAll fs name (sha256 (digests_bytes v rows)) f z) e put)) (one.proceeds.told told) two)

        pub files2 : MayPutAll fs name (sha256 (digests_bytes v rows)) b.files c.files → MayWrite next rows a.files c.files
        files2 put = as_next (λ w. MayWrite w rows a.files c.files) (may values a.files c.files (subst (λ (f : Files). MayPutAll fs name (sha256 (digests_bytes v rows)) f c.files) (one.files told) put))

        pub none2 : ((f : Files) → c.images f → StepOf (PutNone fs name) b.images f) → (f : Files) → c.images f → StepOf (WroteNone next) a.images f
        none2 put f image = as_next (λ w. StepOf (WroteNone w) a.images f)
            (let last = put f image in
            let first = (one.proceeds.told told).images last.before last.was in
            record { before = first.before; was = first.was; stepped = none first.before f (subst (λ (g : Files). PutNone fs name g f) first.stepped last.stepped) })

        pub not_there2 : PutNone fs name b.files c.files → WroteNone next a.files c.files
        not_there2 put = as_next (λ w. WroteNone w a.files c.files) (none a.files c.files (subst (λ (g : Files). PutNone fs name g c.files) (one.files told) put))

        pub written : Becomes (with_volume fs name (sha256 (digests_bytes v rows))) b c → (f : Files) → c.images f → StepOf (Wrote next rows) a.images f
        written done f image = as_next (λ w. StepOf (Wrote w rows) a.images f)
            (let last = done.images f image in
            let first = (one.proceeds.told told).images last.before last.was in
            record { before = first.before; was = first.was; stepped = wrote values first.before f (last.stepped ∙ ap (with_volume fs name (sha256 (digests_bytes v rows))) first.stepped) })

        pub there : Becomes (with_volume fs name (sha256 (digests_bytes v rows))) b c → Wrote next rows a.files c.files
        there done = as_next (λ w. Wrote w rows a.files c.files) (wrote values a.files c.files (done.files ∙ ap (with_volume fs name (sha256 (digests_bytes v rows))) (one.files told)))
