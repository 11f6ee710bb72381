-- A gate that is opened last, over any disk.
use Rattle.std.proofs.Common.{◌≡◌, ◌⊎◌, inl, inr, ⊎_elim, ℕ, List, [], ◌∷◌, length, true, false, Bool, ◌==◌, refl, sym, ap, subst, ◌∙◌, Some, arith, rules}
use Rattle.std.specs.FinMap.{get, insert}
use Rattle.std.proofs.lemmas.Option.{same_Some}
use Rattle.shard_files.specs.m3_model.Members.{IsIn}
use Rattle.shard_files.specs.m3_outside.declared.file_name.FileName.{FileName}
use Rattle.shard_files.specs.m3_outside.Files.{Files, Torn, Wrote, Stays, IsInside, IsPresent, IsAbsent, patched}
use Rattle.shard_files.specs.m3_outside.DiskState.{DiskState, StepOf, Elapses, Becomes}
use Rattle.shard_files.specs.m3_outside.DiskCalls.{LeavesFiles}
use Rattle.shard_files.proofs.m3_outside_proofs.Names.{get_here, get_apart, is_insert, insert_over}
use Rattle.shard_files.proofs.m3_outside_proofs.Moments.{elapses_as, elapses_then, elapses_from, becomes_both, becomes_stays, step_as}
use Rattle.shard_files.specs.Parts.{is_open}
use Rattle.fileset_write.specs.declared.new_file.NewFile.{NewFile}
use Rattle.fileset_write.proofs.FilesLemmas.{made_others}
use Rattle.fileset_write.specs.Putting.{MayPut, IsBehind, behind, with_file, with_files, names_of, OthersOf, IsShut, MayOpen, opened, with_volume, MayPutAll, PutNone}

-- ---- the gate alone

module _ (name : FileName) (digest : List ℕ) where
  abbrev IsClosed : Files → Type 0
  IsClosed x = get x name ≡ Some (0 ∷ digest)

  shut_open : (x y : Files) → IsClosed x → y ≡ x → MayOpen name digest x y
  shut_open x y shut e = record {
    others = λ q apart. ap (λ (f : Files). get f q) e;
    either = inl (ap is_open (ap (λ (f : Files). get f name) e ∙ shut));
  }

  gate_of : (bytes : List ℕ) → length bytes ≡ 1 → (b : ℕ) × (bytes ≡ b ∷ [])
  gate_of [] long = absurd (cc)
  gate_of (b ∷ []) long = (b, refl)
  gate_of (b ∷ k ∷ more) long = absurd (omega (arith, long))

  -- the file with another gate
  regated : (x z : Files) (b : ℕ) → IsClosed x → Wrote name 0 (b ∷ []) x z → z ≡ insert x name (b ∷ digest)
  regated x z b shut wrote =
      wrote.after ∙ ap (λ (l : List ℕ). insert x name (patched l 0 (b ∷ []))) (same_Some _ _ (sym wrote.there ∙ shut))

  gate_is : (b : ℕ) → ((b == 1) ≡ false) ⊎ (b ≡ 1)
  gate_is b = elim (b == 1) as (λ (v : Bool). (b == 1) ≡ v → ((b == 1) ≡ false) ⊎ (b ≡ 1)) [ true ↦ λ e. inr (search (rules, e)) | false ↦ λ e. inl e ] refl

  torn_open : (x z : Files) → IsClosed x → Torn name 0 1 x z → MayOpen name digest x z
  torn_open x z shut torn =
      let b = gate_of torn.bytes torn.same_length in
      let at : z ≡ insert x name (b.0 ∷ digest) = regated x z b.0 shut (subst (λ (l : List ℕ). Wrote name 0 l x z) b.1 torn.wrote) in
      let here : get z name ≡ Some (b.0 ∷ digest) = ap (λ (f : Files). get f name) at ∙ get_here x name (b.0 ∷ digest) in
      record {
        others = λ q apart. ap (λ (f : Files). get f q) at ∙ get_apart x name (b.0 ∷ digest) q apart;
        either = ⊎_elim (λ (closed : (b.0 == 1) ≡ false). inl (ap is_open here ∙ closed)) (λ (one : b.0 ≡ 1). inr (here ∙ ap (λ (k : ℕ). Some (k ∷ digest)) one)) (gate_is b.0);
      }

  module _ (a b : DiskState) (F : Type 0) (shut : IsShut name digest a) (one : LeavesFiles F a b) (told : a.tells ≡ true) where
    pub moment1 : Elapses (MayOpen name digest) a b
    moment1 = elapses_as a b (λ x y image same. shut_open x y (shut.each told x image) same) (one.proceeds.told told)

    pub files1 : MayOpen name digest a.files b.files
    files1 = shut_open a.files b.files (shut.told told) (one.files told)

    pub kept : Becomes (λ files. files) a b
    kept = becomes_stays F a b one told

    shut_b : IsClosed b.files
    shut_b = ap (λ (f : Files). get f name) (one.files told) ∙ shut.told told

    pub inside : IsInside name 0 1 b.files
    inside = record { file = 0 ∷ digest; there = shut_b; within = omega arith }

    module _ (c : DiskState) (two : Elapses (Torn name 0 1) b c) (torn : Torn name 0 1 b.files c.files) where
      pub moment2 : Elapses (MayOpen name digest) a c
      moment2 = elapses_then a b c (λ x y image same. shut_open x y (shut.each told x image) same)
          (λ x y z image same image1 tears. torn_open x z (shut.each told x image) (subst (λ (f : Files). Torn name 0 1 f z) same tears)) (one.proceeds.told told) two

      pub files2 : MayOpen name digest a.files c.files
      files2 = torn_open a.files c.files (shut.told told) (subst (λ (f : Files). Torn name 0 1 f c.files) (one.files told) torn)

      pub present : IsPresent name c.files
      present = record { file = patched torn.wrote.file 0 torn.bytes; there = ap (λ (f : Files). get f name) torn.wrote.after ∙ get_here b.files name (patched torn.wrote.file 0 torn.bytes) }

      module _ (d : DiskState) (three : Elapses Stays c d) (same : d.files ≡ c.files) where
        pub moment3 : Elapses (MayOpen name digest) a d
        moment3 = elapses_from a c d (λ x y z may is. subst (MayOpen name digest x) (sym is) may) moment2 moment2.images three

        pub files3 : MayOpen name digest a.files d.files
        files3 = subst (MayOpen name digest a.files) (sym same) files2

        pub is_opened : Wrote name 0 (1 ∷ []) b.files c.files → ((f : Files) → d.images f → get f name ≡ get d.files name) → Becomes (opened name digest) a d
        is_opened wrote synced =
            let at : d.files ≡ insert a.files name (1 ∷ digest) = same ∙ regated b.files c.files 1 shut_b wrote ∙ ap (λ (f : Files). insert f name (1 ∷ digest)) (one.files told) in
            let here : get d.files name ≡ Some (1 ∷ digest) = ap (λ (f : Files). get f name) at ∙ get_here a.files name (1 ∷ digest) in
            record {
              files = at;
              images = λ y image.
                  let step = moment3.images y image in
                  record { before = step.before; was = step.was; stepped = is_insert step.before y name (1 ∷ digest) (synced y image ∙ here) step.stepped.others };
            }

-- ---- all files and then the checkpoint

module _ (fs : List NewFile) (name : FileName) (digest : List ℕ) (apart : (other : FileName) → IsIn (names_of fs) other → other ≡ name → ⊥) where
  abbrev n : ℕ
  n = length digest

  not_it : IsIn (names_of fs) name → ⊥
  not_it m = apart name m refl

  others_shut : (x y : Files) → IsAbsent name x → OthersOf (names_of fs) x y → PutNone fs name x y
  others_shut x y none others = record {
    others = λ q out. others q (λ m. out (inr m));
    shut = ap is_open (others name not_it ∙ none);
  }

  pub none_all : (x y : Files) → PutNone fs name x y → MayPutAll fs name digest x y
  none_all x y put = record { others = put.others; either = inl put.shut }

  put_shut : (x y z : Files) → IsAbsent name x → y ≡ with_files fs x → MayPut name 1 n y z → PutNone fs name x z
  put_shut x y z none e may =
      let before : (q : FileName) → (IsIn (names_of fs) q → ⊥) → get y q ≡ get x q = λ q out. ap (λ (f : Files). get f q) e ∙ made_others fs x q out in
      record {
        others = λ q out. may.others q (λ same. out (inl (sym same))) ∙ before q (λ m. out (inr m));
        shut = ⊎_elim (λ (same : get z name ≡ get y name). ap is_open (same ∙ before name not_it ∙ none)) (λ (put : IsBehind 1 n name z). ap is_open put.there) may.either;
      }

  open_all : (x y z : Files) → y ≡ with_file name (behind 1 digest) (with_files fs x) → MayOpen name digest y z → MayPutAll fs name digest x z
  open_all x y z e may =
      let before : (q : FileName) → (q ≡ name → ⊥) → get z q ≡ get (with_files fs x) q = λ q other. may.others q other ∙ ap (λ (f : Files). get f q) e ∙ get_apart (with_files fs x) name (behind 1 digest) q other in
      record {
        others = λ q out. before q (λ same. out (inl (sym same))) ∙ made_others fs x q (λ m. out (inr m));
        either = ⊎_elim (λ (shut : is_open (get z name) ≡ false). inl shut) (λ (here : get z name ≡ Some (1 ∷ digest)). inr (is_insert (with_files fs x) z name (1 ∷ digest) here before)) may.either;
      }

  shut_none : (x z : Files) → z ≡ with_file name (behind 1 digest) (with_files fs x) → PutNone fs name x z
  shut_none x z e = record {
    others = λ q out. ap (λ (f : Files). get f q) e ∙ get_apart (with_files fs x) name (behind 1 digest) q (λ same. out (inl (sym same))) ∙ made_others fs x q (λ m. out (inr m));
    shut = ap is_open (ap (λ (f : Files). get f name) e ∙ get_here (with_files fs x) name (behind 1 digest));
  }

  module _ (a b : DiskState) (told : a.tells ≡ true) (none : IsAbsent name a.files) (none_each : (x : Files) → a.images x → IsAbsent name x)
      (one : Elapses (OthersOf (names_of fs)) a b) (files_one : OthersOf (names_of fs) a.files b.files) where
    pub all1 : Elapses (MayPutAll fs name digest) a b
    all1 = elapses_as a b (λ x y image others. none_all x y (others_shut x y (none_each x image) others)) one

    pub none1 : (c : Files) → b.images c → StepOf (PutNone fs name) a.images c
    none1 c image = step_as (λ x y was others. others_shut x y (none_each x was) others) c (one.images c image)

    pub read1 : PutNone fs name a.files b.files
    read1 = others_shut a.files b.files none files_one

    pub absent : IsAbsent name b.files
    absent = files_one name not_it ∙ none

    module _ (done : Becomes (with_files fs) a b) (c : DiskState) (two : Elapses (MayPut name 1 n) b c) (files_two : MayPut name 1 n b.files c.files) where
      pub none2 : (f : Files) → c.images f → StepOf (PutNone fs name) a.images f
      none2 f image =
          let second = two.images f image in
          let first = done.images second.before second.was in
          record { before = first.before; was = first.was; stepped = put_shut first.before second.before f (none_each first.before first.was) first.stepped second.stepped }

      pub all2 : Elapses (MayPutAll fs name digest) a c
      all2 = record {
        later = omega (arith, one.later, two.later);
        images = λ f image. step_as (λ x y was put. none_all x y put) f (none2 f image);
        nothing_else = λ t f le left. ⊎_elim (λ was. all1.nothing_else t f le was)
            (λ second. inr (let first = done.images second.before second.was in
            record { before = first.before; was = first.was; stepped = none_all first.before f (put_shut first.before second.before f (none_each first.before first.was) first.stepped second.stepped) }))
            (two.nothing_else t f (omega (arith, le, one.later)) left);
        keeps = λ t f le left. two.keeps t f (omega (arith, le, one.later)) (one.keeps t f le left);
      }

      pub read2 : PutNone fs name a.files c.files
      read2 = put_shut a.files b.files c.files none done.files files_two

      module _ (put : Becomes (with_file name (behind 1 digest)) b c) where
        pub both : Becomes (λ x. with_file name (behind 1 digest) (with_files fs x)) a c
        both = becomes_both (with_files fs) (with_file name (behind 1 digest)) (λ x. with_file name (behind 1 digest) (with_files fs x)) a b c (λ x y e. ap (with_file name (behind 1 digest)) e) done put

        pub shut_told : get c.files name ≡ Some (0 ∷ digest)
        shut_told = ap (λ (f : Files). get f name) put.files ∙ get_here b.files name (behind 1 digest)

        pub shut_each : (f : Files) → c.images f → get f name ≡ Some (0 ∷ digest)
        shut_each f image = let step = put.images f image in ap (λ (g : Files). get g name) step.stepped ∙ get_here step.before name (behind 1 digest)

        module _ (d : DiskState) (three : Elapses (MayOpen name digest) c d) (files_three : MayOpen name digest c.files d.files) where
          pub all3 : Elapses (MayPutAll fs name digest) a d
          all3 = elapses_from a c d open_all all2 both.images three

          pub read3 : MayPutAll fs name digest a.files d.files
          read3 = open_all a.files c.files d.files both.files files_three

          pub none3 : Becomes (λ files. files) c d → (f : Files) → d.images f → StepOf (PutNone fs name) a.images f
          none3 same f image =
              let last = same.images f image in
              let first = both.images last.before last.was in
              record { before = first.before; was = first.was; stepped = shut_none first.before f (last.stepped ∙ first.stepped) }

          pub read_none3 : Becomes (λ files. files) c d → PutNone fs name a.files d.files
          read_none3 same = shut_none a.files d.files (same.files ∙ both.files)

          pub is_all : Becomes (opened name digest) c d → Becomes (with_volume fs name digest) a d
          is_all more = becomes_both (λ x. with_file name (behind 1 digest) (with_files fs x)) (opened name digest) (with_volume fs name digest) a c d
              (λ x y e. ap (opened name digest) e ∙ insert_over (with_files fs x) name (behind 1 digest) (1 ∷ digest)) both more
