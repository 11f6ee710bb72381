-- Files that are made one after another.
use Rattle.std.proofs.Common.{add-one, ◌≡◌, inl, inr, ℕ, ◌+◌, ◌<◌, List, [], ◌∷◌, ◌++◌, length, take, drop, get_or, true, refl, sym, ap, subst, ◌∙◌, arith}
use Rattle.std.proofs.lemmas.List.{take-append-drop, take_more}
use Rattle.std.proofs.Math.Seq.{drop-cons}
use Rattle.std.specs.FinMap.{get}
use Rattle.shard_files.specs.m3_model.Members.{IsIn}
use Rattle.shard_files.proofs.m3_model_proofs.MemberLemmas.{IsIn-append_right, map-IsIn}
use Rattle.shard_files.specs.m3_outside.Causes.{CountsFaults}
use Rattle.shard_files.specs.m3_outside.declared.file_name.FileName.{FileName}
use Rattle.shard_files.specs.m3_outside.Files.{Files, IsAbsent}
use Rattle.shard_files.specs.m3_outside.DiskState.{DiskState, Elapses, Becomes}
use Rattle.shard_files.proofs.m3_outside_proofs.Moments.{elapses_then, becomes_both, same_becomes, counts_then}
use Rattle.shard_files.proofs.m3_outside_proofs.Names.{get_apart}
use Rattle.fileset_write.specs.declared.new_file.NewFile.{NewFile}
use Rattle.fileset_write.specs.Putting.{MayPut, OthersOf, AreAbsent, AreApart, names_of, with_file, with_files}

-- one file after the others
files_more : (fs : List NewFile) (f : NewFile) (x : Files) → with_files (fs ++ f ∷ []) x ≡ with_file f.name f.bytes (with_files fs x)
files_more [] f x = refl
files_more (k ∷ fs) f x = files_more fs f (with_file k.name k.bytes x)

-- files that are made keep the others
pub made_others : (fs : List NewFile) (x : Files) (q : FileName) → (IsIn (names_of fs) q → ⊥) → get (with_files fs x) q ≡ get x q
made_others [] x q out = refl
made_others (f ∷ fs) x q out = made_others fs (with_file f.name f.bytes x) q (λ m. out (inr m)) ∙ get_apart x f.name f.bytes q (λ e. out (inl (sym e)))

-- the first i of the files are made
pub record PutSoFar (fs : List NewFile) (i : ℕ) (old now : DiskState) : Type 0 where
  pub tells : now.tells ≡ old.tells
  pub faults : CountsFaults ⊥ old.faults now.faults
  pub becomes : old.tells ≡ true → Becomes (with_files (take i fs)) old now
  pub elapses : old.tells ≡ true → Elapses (OthersOf (names_of fs)) old now
  pub files : old.tells ≡ true → OthersOf (names_of fs) old.files now.files
  pub apart : AreApart (names_of (drop i fs))
  pub left : old.tells ≡ true → AreAbsent (names_of (drop i fs)) now.files

pub put_none : (fs : List NewFile) (a : DiskState) → AreApart (names_of fs) → (a.tells ≡ true → AreAbsent (names_of fs) a.files) → PutSoFar fs 0 a a
put_none fs a apart left = record {
  tells = refl;
  faults = record { later = omega arith; stays = λ e. e; rose = λ f. absurd f };
  becomes = λ t. same_becomes a;
  elapses = λ t. record { later = omega arith; images = λ c image. record { before = c; was = image; stepped = λ q out. refl }; nothing_else = λ m c le left. inl left; keeps = λ m c le left. left };
  files = λ t q out. refl;
  apart = apart;
  left = left;
}

module _ (fs : List NewFile) (i : ℕ) (f : NewFile) (lt : i < length fs) (is : f ≡ get_or fs i f) (a b c : DiskState) (so_far : PutSoFar fs i a b) (bytes : List ℕ) (same : bytes ≡ f.bytes) where
  rest : drop i fs ≡ f ∷ drop (i + 1) fs
  rest = rw add-one (drop-cons fs i f lt) ∙ ap (λ (k : NewFile). k ∷ drop (i + 1) fs) (sym is)

  first : take (i + 1) fs ≡ take i fs ++ f ∷ []
  first = take_more fs i f lt ∙ ap (λ (k : NewFile). take i fs ++ k ∷ []) (sym is)

  named : IsIn (names_of fs) f.name
  named = map-IsIn (λ (k : NewFile). k.name) fs f (subst (λ (l : List NewFile). IsIn l f) (take-append-drop i fs) (IsIn-append_right (take i fs) (drop i fs) f (subst (λ (l : List NewFile). IsIn l f) (sym rest) (inl refl))))

  apart_here : AreApart (names_of (f ∷ drop (i + 1) fs))
  apart_here = subst (λ (l : List NewFile). AreApart (names_of l)) rest so_far.apart

  left_here : a.tells ≡ true → AreAbsent (names_of (f ∷ drop (i + 1) fs)) b.files
  left_here t = subst (λ (l : List NewFile). AreAbsent (names_of l) b.files) rest (so_far.left t)

  pub absent_here : a.tells ≡ true → IsAbsent f.name b.files
  absent_here t = left_here t f.name (inl refl)

  others_more : (x y z : Files) → OthersOf (names_of fs) x y → MayPut f.name 0 (length bytes) y z → OthersOf (names_of fs) x z
  others_more x y z others may q out = may.others q (λ e. out (subst (IsIn (names_of fs)) (sym e) named)) ∙ others q out

  pub put_elapses : a.tells ≡ true → Elapses (MayPut f.name 0 (length bytes)) b c → Elapses (OthersOf (names_of fs)) a c
  put_elapses t more = elapses_then a b c (λ x y image others. others) (λ x y z image others image1 may. others_more x y z others may) (so_far.elapses t) more

  pub put_others : a.tells ≡ true → MayPut f.name 0 (length bytes) b.files c.files → OthersOf (names_of fs) a.files c.files
  put_others t may = others_more a.files b.files c.files (so_far.files t) may

  next : (x y : Files) → y ≡ with_files (take i fs) x → with_file f.name bytes y ≡ with_files (take (i + 1) fs) x
  next x y e =
      ap (λ (l : List ℕ). with_file f.name l y) same
      ∙ ap (with_file f.name f.bytes) e
      ∙ sym (files_more (take i fs) f x)
      ∙ ap (λ (l : List NewFile). with_files l x) (sym first)

  pub put_more : c.tells ≡ b.tells → CountsFaults ⊥ b.faults c.faults
      → (a.tells ≡ true → Elapses (MayPut f.name 0 (length bytes)) b c) → (a.tells ≡ true → MayPut f.name 0 (length bytes) b.files c.files)
      → (a.tells ≡ true → Becomes (with_file f.name bytes) b c) → PutSoFar fs (i + 1) a c
  put_more tells faults goes may done = record {
    tells = tells ∙ so_far.tells;
    faults = counts_then ⊥ a.faults b.faults c.faults so_far.faults faults;
    becomes = λ t. becomes_both (with_files (take i fs)) (with_file f.name bytes) (with_files (take (i + 1) fs)) a b c next (so_far.becomes t) (done t);
    elapses = λ t. put_elapses t (goes t);
    files = λ t. put_others t (may t);
    apart = apart_here.1;
    left = λ t q m. ap (λ (g : Files). get g q) (done t).files ∙ get_apart b.files f.name bytes q (apart_here.0 q m) ∙ left_here t q (inr m);
  }
