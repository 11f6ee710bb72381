-- Files that are taken away one after another.
use Rattle.std.proofs.Common.{◌≡◌, ◌⊎◌, inl, inr, ⊎_elim, ℕ, ◌+◌, ◌<◌, ◌≤◌, List, [], ◌∷◌, ◌++◌, length, take, drop, get_or, refl, sym, ap, subst, ◌∙◌, arith, true, Result, Ok, Err}
use Rattle.std.specs.Prelude.{⊤, IsErr}
use Rattle.std.specs.FinMap.{get}
use Rattle.std.proofs.lemmas.List.{take-append-drop, take_more, drop_more}
use Rattle.m3_model.specs.Members.{IsIn}
use Rattle.m3_outside.specs.Causes.{CountsFaults}
use Rattle.m3_outside.specs.declared.file_name.FileName.{FileName}
use Rattle.m3_outside.specs.declared.failed.Failed.{Failed}
use Rattle.m3_outside.specs.Files.{Files, IsPresent, IsAbsent, DoneOrNot, files_without}
use Rattle.m3_outside.specs.DiskState.{DiskState, Elapses, Proceeds, Becomes}
use Rattle.m3_outside.specs.DiskCalls.{Removes, LeavesFiles}
use Rattle.m3_outside.specs.Removal.{without_files, MayTakeAway, HasTakenAway, AreRemovable}
use Rattle.m3_outside.proofs.Names.{name_is, get_gone, get_stays}
use Rattle.m3_outside.proofs.Moments.{elapses_as, elapses_then, elapses_from, becomes_both, becomes_stays, same_becomes, counts_then, counts_none, counts_when}

-- ---- what is left

-- a file that isn't there comes from no removal
pub none_stays : (names : List FileName) (x : Files) (q : FileName) → IsAbsent q x → IsAbsent q (without_files names x)
none_stays [] x q none = none
none_stays (n ∷ names) x q none =
    none_stays names (files_without n x) q (⊎_elim (λ (same : q ≡ n). ap (get (files_without n x)) same ∙ get_gone x n) (λ (apart : q ≡ n → ⊥). get_stays x n q apart ∙ none) (name_is q n))

pub gone_none : (names : List FileName) (x : Files) (q : FileName) → IsIn names q → IsAbsent q (without_files names x)
gone_none [] x q m = absurd m
gone_none (n ∷ names) x q (inl same) = none_stays names (files_without n x) q (ap (get (files_without n x)) (sym same) ∙ get_gone x n)
gone_none (n ∷ names) x q (inr rest) = gone_none names (files_without n x) q rest

pub left_same : (names : List FileName) (x : Files) (q : FileName) → (IsIn names q → ⊥) → get (without_files names x) q ≡ get x q
left_same [] x q out = refl
left_same (n ∷ names) x q out = left_same names (files_without n x) q (λ m. out (inr m)) ∙ get_stays x n q (λ e. out (inl (sym e)))

-- ---- one after another

-- one file after the others
without_more : (names : List FileName) (n : FileName) (files : Files) → without_files (names ++ n ∷ []) files ≡ files_without n (without_files names files)
without_more [] n files = refl
without_more (k ∷ names) n files = without_more names n (files_without k files)

-- names of which no two are the same
abbrev pub Distinct : List FileName → Type 0
Distinct [] = ⊤
Distinct (n ∷ names) = ((q : FileName) → IsIn names q → q ≡ n → ⊥) × Distinct names

-- files that are there, each named once
pub removable : (names : List FileName) (files : Files) → Distinct names → ((q : FileName) → IsIn names q → IsPresent q files) → AreRemovable names files
removable [] files once there = tt
removable (n ∷ names) files once there = (
  there n (inl refl),
  removable names (files_without n files) once.1 (λ q m. let p = there q (inr m) in record { file = p.file; there = get_stays files n q (once.0 q m) ∙ p.there }),
)

-- the first i of the files are taken away
pub record Going (names : List FileName) (i : ℕ) (old now : DiskState) : Type 0 where
  pub tells : now.tells ≡ old.tells
  pub faults : CountsFaults ⊥ old.faults now.faults
  pub becomes : old.tells ≡ true → Becomes (without_files (take i names)) old now
  pub elapses : old.tells ≡ true → Elapses (MayTakeAway names) old now
  pub left : old.tells ≡ true → AreRemovable (drop i names) now.files
  pub room : length names ≤ now.spare + i
  pub spare : old.spare ≤ now.spare + i

take_none : (names : List FileName) (x : Files) → MayTakeAway names x x
take_none names x = record { gone = []; left = names; split = refl; taken = refl }

pub not_going : (names : List FileName) (a : DiskState) → (a.tells ≡ true → AreRemovable names a.files) → length names ≤ a.spare → Going names 0 a a
not_going names a left room = record {
  tells = refl;
  faults = record { later = omega arith; stays = λ e. e; rose = λ f. absurd f };
  becomes = λ t. same_becomes a;
  elapses = λ t. record { later = omega arith; images = λ c image. record { before = c; was = image; stepped = take_none names c }; nothing_else = λ m c le left. inl left; keeps = λ m c le left. left };
  left = left;
  room = omega (arith, room);
  spare = omega arith;
}

never_failed : (u : ⊤) → (let r : Result ⊤ Failed = Ok u in IsErr r) → ⊥
never_failed u e = absurd (cc)

module _ (names : List FileName) (i : ℕ) (d : FileName) (lt : i < length names) (a b c : DiskState) (going : Going names i a b) where
  abbrev name : FileName
  name = get_or names i d

  next : (x y : Files) → y ≡ without_files (take i names) x → files_without name y ≡ without_files (take (i + 1) names) x
  next x y e = ap (files_without name) e ∙ sym (without_more (take i names) name x) ∙ ap (λ (l : List FileName). without_files l x) (sym (take_more names i d lt))

  here : (x y : Files) → y ≡ without_files (take i names) x → MayTakeAway names x y
  here x y e = record { gone = take i names; left = drop i names; split = sym (take-append-drop i names); taken = e }

  after : (x y : Files) → y ≡ without_files (take (i + 1) names) x → MayTakeAway names x y
  after x y e = record { gone = take (i + 1) names; left = drop (i + 1) names; split = sym (take-append-drop (i + 1) names); taken = e }

  -- within the removal and after it
  pub moment : (r : Result ⊤ Failed) → Removes (get_or names i d) r b c → a.tells ≡ true → Elapses (MayTakeAway names) a c
  moment r removes t = elapses_from a b c step (going.elapses t) (going.becomes t).images (removes.changes.proceeds.told (going.tells ∙ t))
    where
      step : (x y z : Files) → y ≡ without_files (take i names) x → DoneOrNot (files_without name) y z → MayTakeAway names x z
      step x y z e (inl same) = here x z (same ∙ e)
      step x y z e (inr done) = after x z (done ∙ next x y e)

  same : Becomes (λ files. files) b c → a.tells ≡ true → Becomes (without_files (take i names)) a c
  same kept t = becomes_both (without_files (take i names)) (λ files. files) (without_files (take i names)) a b c (λ x y e. e) (going.becomes t) kept

  more : Becomes (files_without name) b c → a.tells ≡ true → Becomes (without_files (take (i + 1) names)) a c
  more done t = becomes_both (without_files (take i names)) (files_without name) (without_files (take (i + 1) names)) a b c next (going.becomes t) done

  pub stopped : (F : Type 0) (e : Failed) → Removes (get_or names i d) (Err e) b c → Proceeds (MayTakeAway names) F a c
  stopped F e removes = record {
    tells = removes.changes.proceeds.tells ∙ going.tells;
    faults = counts_then F a.faults b.faults c.faults going.faults (counts_when F _ b.faults c.faults (λ f. refl) removes.changes.proceeds.faults);
    told = λ t. moment (Err e) removes t;
  }

  -- what is gone where it failed
  pub take_failed : (e : Failed) → Removes (get_or names i d) (Err e) b c → a.tells ≡ true → HasTakenAway names a c
  take_failed e removes t = by (removes.changes.done_or_not (going.tells ∙ t) refl)
    where
      by : Becomes (λ files. files) b c ⊎ Becomes (files_without name) b c → HasTakenAway names a c
      by (inl kept) = record { gone = take i names; left = drop i names; split = sym (take-append-drop i names); taken = same kept t }
      by (inr done) = record { gone = take (i + 1) names; left = drop (i + 1) names; split = sym (take-append-drop (i + 1) names); taken = more done t }

  pub goes_on : (u : ⊤) → Removes (get_or names i d) (Ok u) b c → Going names (i + 1) a c
  goes_on u removes = record {
    tells = removes.changes.proceeds.tells ∙ going.tells;
    faults = counts_then ⊥ a.faults b.faults c.faults going.faults (counts_none _ b.faults c.faults (never_failed u) removes.changes.proceeds.faults);
    becomes = λ t. more (removes.changes.done (going.tells ∙ t) refl) t;
    elapses = λ t. moment (Ok u) removes t;
    left = λ t.
        let parts = subst (λ (l : List FileName). AreRemovable l b.files) (drop_more names i d lt) (going.left t) in
        subst (AreRemovable (drop (i + 1) names)) (sym (removes.changes.done (going.tells ∙ t) refl).files) parts.1;
    room = omega (arith, going.room, removes.spare);
    spare = omega (arith, going.spare, removes.spare);
  }

  pub present : a.tells ≡ true → IsPresent (get_or names i d) b.files
  present t = (subst (λ (l : List FileName). AreRemovable l b.files) (drop_more names i d lt) (going.left t)).0

-- so far, and at last
pub gone_on : (F : Type 0) (names : List FileName) (i : ℕ) (a b : DiskState) → (F → ⊥) → Going names i a b → Proceeds (MayTakeAway names) F a b
gone_on F names i a b passed going = record { tells = going.tells; faults = counts_when F ⊥ a.faults b.faults passed going.faults; told = going.elapses }

pub taken_so_far : (names : List FileName) (i : ℕ) (a b : DiskState) → Going names i a b → a.tells ≡ true → HasTakenAway names a b
taken_so_far names i a b going t = record { gone = take i names; left = drop i names; split = sym (take-append-drop i names); taken = going.becomes t }

pub may_take : (names : List FileName) (a b : DiskState) → HasTakenAway names a b → MayTakeAway names a.files b.files
may_take names a b has = record { gone = has.gone; left = has.left; split = has.split; taken = has.taken.files }

-- a call that leaves the files, and then one that takes some away
module _ (F : Type 0) (names : List FileName) (a b : DiskState) (leaves : LeavesFiles F a b) where
  pub left_elapses : a.tells ≡ true → Elapses (MayTakeAway names) a b
  left_elapses t = elapses_as a b (λ x y image same. subst (MayTakeAway names x) (sym same) (take_none names x)) (leaves.proceeds.told t)

  pub left_all : a.tells ≡ true → HasTakenAway names a b
  left_all t = record { gone = []; left = names; split = refl; taken = becomes_stays F a b leaves t }

  module _ (c : DiskState) where
    pub then_elapses : a.tells ≡ true → Elapses (MayTakeAway names) b c → Elapses (MayTakeAway names) a c
    then_elapses t two =
        elapses_then a b c (λ x y image same. subst (MayTakeAway names x) (sym same) (take_none names x)) (λ x y z image same image1 takes. subst (λ (w : Files). MayTakeAway names w z) same takes) (leaves.proceeds.told t) two

    pub then_becomes : a.tells ≡ true → (gone : List FileName) → Becomes (without_files gone) b c → Becomes (without_files gone) a c
    then_becomes t gone two = becomes_both (λ files. files) (without_files gone) (without_files gone) a b c (λ x y e. ap (without_files gone) e) (becomes_stays F a b leaves t) two

    pub then_taken : a.tells ≡ true → HasTakenAway names b c → HasTakenAway names a c
    then_taken t has = record { gone = has.gone; left = has.left; split = has.split; taken = then_becomes t has.gone has.taken }
