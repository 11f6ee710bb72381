-- What is left of a log where segments are taken away.
use Rattle.std.proofs.Common.{◌≡◌, inl, inr, ⊎_elim, ℕ, ◌<◌, ◌≤◌, List, [], ◌∷◌, ◌++◌, map, refl, sym, ap, subst, ◌∙◌, Some, None, arith, Bool, true, false, cond, not, append_assoc}
use Rattle.std.specs.Prelude.{nat_lt}
use Rattle.std.specs.List.{filter}
use Rattle.std.proofs.lemmas.Bool.{ltb-false, le-ltb}
use Rattle.std.specs.FinMap.{get}
use Rattle.log_chunks.specs.m3_model.Members.{IsIn}
use Rattle.log_chunks.specs.m3_model.Ascends.{Ascends}
use Rattle.log_chunks.proofs.m3_model_proofs.MemberLemmas.{IsIn-append_left, IsIn-append_right, IsIn-append_cases, map-IsIn}
use Rattle.log_chunks.specs.m3_outside.Files.{Files}
use Rattle.log_chunks.specs.m3_outside.DiskState.{DiskState, IsLawfulDisk, StepOf, Elapses}
use Rattle.log_chunks.specs.m3_outside.Removal.{without_files, MayTakeAway, HasTakenAway}
use Rattle.log_chunks.proofs.m3_outside_proofs.Removal.{none_stays, gone_none, left_same, may_take}
use Rattle.commit_log.specs.Segment.{segment, IsAtRest}
use Rattle.commit_log.specs.LogEnd.{LogEnd, NoneAbove, LogEndStands}
use Rattle.commit_log.specs.Contents.{numbers, PartsHold}
use Rattle.commit_log.specs.Cutting.{numbers_below, numbers_from, segments_below}
use Rattle.commit_log.specs.LogLaws.{IsLog, IsCutAt, LeavesEnd, CutLeavesEnd}
use Rattle.commit_log.proofs.CutLemmas.{by_numbers, named_in}
use Rattle.commit_log.proofs.Numbers.{in_there, there_in, ascend, same_members, in_below}
use Rattle.commit_log.proofs.Parts.{parts_split, parts_join, parts_same}
use Rattle.commit_log.proofs.LogLemmas.{since_begin}

-- of segments, by their numbers
gone_number : (ns : List ℕ) (x : Files) (n : ℕ) → IsIn ns n → get (without_files (map segment ns) x) (segment n) ≡ None
gone_number ns x n m = gone_none (map segment ns) x (segment n) (map-IsIn segment ns n m)

left_number : (ns : List ℕ) (x : Files) (n : ℕ) → (IsIn ns n → ⊥) → get (without_files (map segment ns) x) (segment n) ≡ get x (segment n)
left_number ns x n out = left_same (map segment ns) x (segment n) (λ m. out (named_in ns n m))

-- ascending numbers in two parts
later_ascend : (ns ms : List ℕ) → Ascends (λ a b. a < b) (ns ++ ms) → Ascends (λ a b. a < b) ms
later_ascend [] ms up = up
later_ascend (n ∷ ns) ms up = later_ascend ns ms up.1

parts_apart : (ns ms : List ℕ) (k n : ℕ) → Ascends (λ a b. a < b) (ns ++ ms) → IsIn ns k → IsIn ms n → k < n
parts_apart [] ms k n up a b = absurd a
parts_apart (j ∷ ns) ms k n up (inl same) b = let lt = up.0 n (IsIn-append_right ns ms n b) in omega (arith, lt, same)
parts_apart (j ∷ ns) ms k n up (inr rest) b = parts_apart ns ms k n up.1 rest b

-- those below m and the others
abbrev below_of : ℕ → List ℕ → List ℕ
below_of m ns = filter (λ n. nat_lt n m) ns

abbrev from_of : ℕ → List ℕ → List ℕ
from_of m ns = filter (λ n. not (nat_lt n m)) ns

all_from : (m : ℕ) (ns : List ℕ) → ((n : ℕ) → IsIn ns n → m ≤ n) → (below_of m ns ≡ []) × (from_of m ns ≡ ns)
all_from m [] all = (refl, refl)
all_from m (n ∷ ns) all =
    let rest = all_from m ns (λ k h. all k (inr h)) in
    let test = le-ltb n m (all n (inl refl)) in
    (ap (λ b. cond b (n ∷ below_of m ns) (below_of m ns)) test ∙ rest.0, ap (λ b. cond (not b) (n ∷ from_of m ns) (from_of m ns)) test ∙ ap (λ (l : List ℕ). n ∷ l) rest.1)

pub halves : (m : ℕ) (ns : List ℕ) → Ascends (λ a b. a < b) ns → ns ≡ below_of m ns ++ from_of m ns
halves m [] up = refl
halves m (n ∷ ns) up = by (nat_lt n m) refl (halves m ns up.1)
  where
    by : (b : Bool) → nat_lt n m ≡ b → ns ≡ below_of m ns ++ from_of m ns → n ∷ ns ≡ cond b (n ∷ below_of m ns) (below_of m ns) ++ cond (not b) (n ∷ from_of m ns) (from_of m ns)
    by true e rest = ap (λ (l : List ℕ). n ∷ l) rest
    by false e rest =
        let all = all_from m ns (λ k h. let lt = up.0 k h in let le = ltb-false n m e in omega (arith, lt, le)) in
        ap (λ (l : List ℕ). n ∷ l) (sym all.1) ∙ ap (λ (l : List ℕ). l ++ n ∷ from_of m ns) (sym all.0)

-- the segments of the first numbers are gone
module _ (gone left from : List ℕ) (x y : Files) (split : numbers x ≡ gone ++ (left ++ from)) (is : y ≡ without_files (map segment gone) x) where
  up : Ascends (λ a b. a < b) (gone ++ (left ++ from))
  up = subst (Ascends (λ a b. a < b)) split (ascend x)

  stays : (n : ℕ) → (IsIn gone n → ⊥) → get y (segment n) ≡ get x (segment n)
  stays n out = ap (λ (w : Files). get w (segment n)) is ∙ left_number gone x n out

  not_gone : (n : ℕ) → IsIn (left ++ from) n → IsIn gone n → ⊥
  not_gone n m g = let lt = parts_apart gone (left ++ from) n n up g m in omega (arith, lt)

  numbers_left : numbers y ≡ left ++ from
  numbers_left = same_members (numbers y) (left ++ from) (ascend y) (later_ascend gone (left ++ from) up) to back
    where
      present : (n : ℕ) (file : List ℕ) → get y (segment n) ≡ Some file → IsIn gone n → ⊥
      present n file there g = let none = ap (λ (w : Files). get w (segment n)) is ∙ gone_number gone x n g in absurd (cc)

      to : (n : ℕ) → IsIn (numbers y) n → IsIn (left ++ from) n
      to n m =
          let f = in_there y n m in
          let out = present n f.0 f.1 in
          ⊎_elim (λ (g : IsIn gone n). absurd (out g)) (λ (r : IsIn (left ++ from) n). r)
          (IsIn-append_cases gone (left ++ from) n (subst (λ (l : List ℕ). IsIn l n) split (there_in x n f.0 (sym (stays n out) ∙ f.1))))

      back : (n : ℕ) → IsIn (left ++ from) n → IsIn (numbers y) n
      back n m =
          let f = in_there x n (subst (λ (l : List ℕ). IsIn l n) (sym split) (IsIn-append_right gone (left ++ from) n m)) in
          there_in y n f.0 (stays n (not_gone n m) ∙ f.1)

  log_left : (cs ds : List (List ℕ)) (last : ℕ) → PartsHold left x cs → PartsHold from x ds → NoneAbove last x → IsLog (cs ++ ds) last y
  log_left cs ds last a b above = record {
    parts = subst (λ (l : List ℕ). PartsHold l y (cs ++ ds)) (sym numbers_left)
        (parts_same (left ++ from) x y (cs ++ ds) (λ n m. stays n (not_gone n m)) (parts_join left from x cs ds a b));
    above = λ n lt. ap (λ (w : Files). get w (segment n)) is ∙ none_stays (map segment gone) x (segment n) (above n lt);
  }

pub cut_end : (m last : ℕ) (below from : List (List ℕ)) (x y : Files) → IsCutAt m below from last x → MayTakeAway (segments_below m x) x y → LeavesEnd below from last y
cut_end m last below from x y at takes =
    let cut = by_numbers (numbers_below m x) x y takes in
    let parts = parts_split cut.gone cut.left x below (subst (λ (l : List ℕ). PartsHold l x below) cut.split at.parts_below) in
    let whole : numbers x ≡ cut.gone ++ (cut.left ++ numbers_from m x) =
    halves m (numbers x) (ascend x) ∙ ap (λ (l : List ℕ). l ++ numbers_from m x) cut.split ∙ append_assoc cut.gone cut.left (numbers_from m x) in
    record {
      gone = parts.front;
      left = parts.back;
      split = parts.split;
      log = log_left cut.gone cut.left (numbers_from m x) x y whole cut.cut parts.back from last parts.of_back at.parts_from at.above;
    }

cut_whole : (m last : ℕ) (below from : List (List ℕ)) (x y : Files) → IsCutAt m below from last x → y ≡ without_files (segments_below m x) x → IsLog from last y
cut_whole m last below from x y at is = log_left (numbers_below m x) [] (numbers_from m x) x y (halves m (numbers x) (ascend x)) is [] from last refl at.parts_from at.above

nothing_cut : (m last : ℕ) (below from : List (List ℕ)) (x : Files) → IsCutAt m below from last x → LeavesEnd below from last x
nothing_cut m last below from x at = cut_end m last below from x x at (record { gone = []; left = segments_below m x; split = refl; taken = refl })

module _ {D : Type 0} (state : D → DiskState) (lawful : (d : D) → IsLawfulDisk (state d)) where
  pub cut_leaves_end : CutLeavesEnd state
  cut_leaves_end = record {
    stopped = λ old new m last below from tells each same elapses c after.
        ⊎_elim (λ (was : (state old).images c). nothing_cut m last below from c (each tells c was))
        (λ (step : StepOf (MayTakeAway (segments_below m (state old).files)) (state old).images c).
        cut_end m last below from step.before c (each tells step.before step.was) (subst (λ (l : List ℕ). MayTakeAway (map segment l) step.before c) (sym (same tells step.before step.was)) step.stepped))
        (since_begin state lawful old new c elapses after);
    done = λ old new m last below from tells each same becomes told c image.
        let step = becomes.images c image in
        cut_whole m last below from step.before c (each tells step.before step.was) (step.stepped ∙ ap (λ (l : List ℕ). without_files (map segment l) step.before) (sym (same tells step.before step.was)));
  }

-- the log's end stands where segments below it are taken away
pub stands_cut : (log : LogEnd) (m : ℕ) (a b : DiskState) → m ≤ log.number → b.tells ≡ a.tells → (a.tells ≡ true → Elapses (MayTakeAway (segments_below m a.files)) a b) → (a.tells ≡ true → HasTakenAway (segments_below m a.files) a b)
    → LogEndStands log a → LogEndStands log b
stands_cut log m a b le same elapses cuts st = record {
  kept = λ clean. let k = st.kept clean in record {
    rest = λ h. let t = sym same ∙ h in rest_stays (k.rest t) (here a.files b.files a.files (files t));
    synced = λ h c image.
        let t = sym same ∙ h in
        let step = (elapses t).images c image in
        here step.before c a.files step.stepped ∙ k.synced t step.before step.was ∙ sym (here a.files b.files a.files (files t));
  };
  above = λ h. let t = sym same ∙ h in none_still (files t) (st.above t);
  within = st.within;
}
  where
    files : a.tells ≡ true → MayTakeAway (segments_below m a.files) a.files b.files
    files t = may_take (segments_below m a.files) a b (cuts t)

    here : (x y z : Files) → MayTakeAway (segments_below m z) x y → get y (segment log.number) ≡ get x (segment log.number)
    here x y z takes =
        let cut = by_numbers (numbers_below m z) x y takes in
        ap (λ (w : Files). get w (segment log.number)) cut.cut
        ∙ left_number cut.gone x log.number (λ g. let lt = (in_below (numbers z) m log.number (subst (λ (l : List ℕ). IsIn l log.number) (sym cut.split) (IsIn-append_left cut.gone cut.left log.number g))).1 in omega (arith, lt, le))

    rest_stays : IsAtRest log.number log.at a.files → get b.files (segment log.number) ≡ get a.files (segment log.number) → IsAtRest log.number log.at b.files
    rest_stays r e = record { chunks = r.chunks; offset = r.offset; there = e ∙ r.there }

    none_still : MayTakeAway (segments_below m a.files) a.files b.files → NoneAbove log.number a.files → NoneAbove log.number b.files
    none_still takes none = λ n lt. ap (λ (w : Files). get w (segment n)) takes.taken ∙ none_stays takes.gone a.files (segment n) (none n lt)
