-- The segments of files of the same names, and of files that an append or a removal leaves.
use Rattle.std.proofs.Common.{◌≡◌, inl, inr, ⊎_elim, ℕ, suc, ◌-◌, ◌<◌, ◌≤◌, List, [], ◌∷◌, length, take, map, Bool, true, false, cond, not, Option, Some, None, refl, sym, ap, subst, ◌∙◌, arith}
use Rattle.std.specs.Prelude.{nat_lt}
use Rattle.std.specs.List.{filter}
use Rattle.std.specs.FinMap.{get}
use Rattle.std.proofs.lemmas.Bool.{cases_eq, lt-ltb, le-ltb, ltb-true, ltb-false}
use Rattle.m3_model.specs.Members.{IsIn}
use Rattle.m3_model.specs.Ascends.{Ascends}
use Rattle.m3_model.proofs.MemberLemmas.{map-IsIn}
use Rattle.m3_model.proofs.Lists.{IsIn-filter, IsIn-filter_passes, filter-IsIn}
use Rattle.m3_model.proofs.Ascending.{Ascends-filter}
use Rattle.m3_outside.specs.Files.{Files, IsAbsent}
use Rattle.m3_outside.specs.DiskState.{HaveSameNames}
use Rattle.m3_outside.specs.Removal.{without_files}
use Rattle.m3_outside.proofs.Removal.{none_stays, gone_none, left_same}
use Rattle.commit_log.specs.Contents.{numbers}
use Rattle.commit_log.specs.Cutting.{numbers_below, numbers_from, segments_below}
use Rattle.commit_log.specs.LogEnd.{NoneAbove, NoneFrom}
use Rattle.commit_log.specs.Segment.{segment, Adds}
use Rattle.commit_log.proofs.CutLemmas.{named_in}
use Rattle.commit_log.proofs.LogLemmas.{apart_names}
use Rattle.commit_log.proofs.Numbers.{in_there, there_in, ascend, same_members, in_below}
use Rattle.placement_log.specs.MetaHolds.{all_but_last}

-- a segment with a number that is listed isn't absent
listed_as : (x y : Files) (n : ℕ) → (IsAbsent (segment n) x → IsAbsent (segment n) y) → IsIn (numbers y) n → IsIn (numbers x) n
listed_as x y n absent m = by (get x (segment n)) refl
  where
    by : (o : Option (List ℕ)) → get x (segment n) ≡ o → IsIn (numbers x) n
    by None e = let there = in_there y n m in let none = absent e in absurd (cc)
    by (Some file) e = there_in x n file e

-- files that have the same segments have the same numbers
pub same_numbers : (x y : Files) → ((n : ℕ) → IsAbsent (segment n) x → IsAbsent (segment n) y) → ((n : ℕ) → IsAbsent (segment n) y → IsAbsent (segment n) x) → numbers y ≡ numbers x
same_numbers x y to back = same_members (numbers y) (numbers x) (ascend y) (ascend x) (λ n m. listed_as x y n (to n) m) (λ n m. listed_as y x n (back n) m)

pub names_numbers : (files c : Files) → HaveSameNames files c → numbers c ≡ numbers files
names_numbers files c same = same_numbers files c (λ n e. (same (segment n)).0 e) (λ n e. (same (segment n)).1 e)

pub none_image : (number : ℕ) (files c : Files) → HaveSameNames files c → NoneAbove number files → NoneAbove number c
none_image number files c same none = λ n lt. (same (segment n)).0 (none n lt)

pub none_from_image : (number : ℕ) (files c : Files) → HaveSameNames files c → NoneFrom number files → NoneFrom number c
none_from_image number files c same none = λ n le. (same (segment n)).0 (none n le)

-- an append makes no segment
pub adds_numbers : (number : ℕ) (chunk : List ℕ) (x y : Files) → Adds (segment number) chunk x y → numbers y ≡ numbers x
adds_numbers number chunk x y adds = same_numbers x y to back
  where
    to : (n : ℕ) → IsAbsent (segment n) x → IsAbsent (segment n) y
    to n e = ⊎_elim (λ (same : n ≡ number). let there = (adds.before).there in let none : IsAbsent (segment number) x = subst (λ k. IsAbsent (segment k) x) same e in absurd (cc)) (λ (apart : n ≡ number → ⊥). adds.others (segment n) (apart_names n number apart) ∙ e) (cases_eq n number)

    back : (n : ℕ) → IsAbsent (segment n) y → IsAbsent (segment n) x
    back n e = ⊎_elim (λ (same : n ≡ number). let there = (adds.after).there in let none : IsAbsent (segment number) y = subst (λ k. IsAbsent (segment k) y) same e in absurd (cc)) (λ (apart : n ≡ number → ⊥). sym (adds.others (segment n) (apart_names n number apart)) ∙ e) (cases_eq n number)

-- ---- the last segment

none_there : (files : Files) (number n : ℕ) → NoneAbove number files → IsIn (numbers files) n → n ≤ number
none_there files number n above m = by (nat_lt number n) refl
  where
    by : (b : Bool) → nat_lt number n ≡ b → n ≤ number
    by true e = let there = in_there files n m in let none = above n (ltb-true number n e) in absurd (cc)
    by false e = ltb-false number n e

all_but_more : (n k : ℕ) (ns : List ℕ) → n ∷ all_but_last (k ∷ ns) ≡ all_but_last (n ∷ (k ∷ ns))
all_but_more n k ns = ap (λ (m : ℕ). take m (n ∷ (k ∷ ns))) (let e : suc (suc (length ns) - 1) ≡ suc (suc (length ns)) - 1 = omega arith in e)

below_last : (ns : List ℕ) (number : ℕ) → Ascends (λ a b. a < b) ns → IsIn ns number → ((n : ℕ) → IsIn ns n → n ≤ number) → filter (λ n. nat_lt n number) ns ≡ all_but_last ns
below_last [] number up is most = absurd is
below_last (n ∷ []) number up is most =
    let same : n ≡ number = ⊎_elim (λ (e : n ≡ number). e) (λ (none : ⊥). absurd none) is in
    ap (λ b. cond b (n ∷ []) []) (le-ltb n number (omega (arith, same)))
below_last (n ∷ (k ∷ ns)) number up is most =
    let low = up.0 k (inl refl) in
    let high = most k (inr (inl refl)) in
    let there : IsIn (k ∷ ns) number = ⊎_elim (λ (e : n ≡ number). absurd (omega (arith, e, low, high))) (λ (r : IsIn (k ∷ ns) number). r) is in
    ap (λ b. cond b (n ∷ filter (λ m. nat_lt m number) (k ∷ ns)) (filter (λ m. nat_lt m number) (k ∷ ns))) (lt-ltb n number (omega (arith, low, high)))
    ∙ ap (λ (l : List ℕ). n ∷ l) (below_last (k ∷ ns) number up.1 there (λ m i. most m (inr i))) ∙ all_but_more n k ns

-- the segments below the last one are all but the last
pub older_below : (number : ℕ) (files : Files) (file : List ℕ) → NoneAbove number files → get files (segment number) ≡ Some file → segments_below number files ≡ map segment (all_but_last (numbers files))
older_below number files file none there =
    ap (map segment) (below_last (numbers files) number (ascend files) (there_in files number file there) (λ n m. none_there files number n none m))

-- the last one alone isn't below
pub from_last : (number : ℕ) (files : Files) (file : List ℕ) → NoneAbove number files → get files (segment number) ≡ Some file → numbers_from number files ≡ number ∷ []
from_last number files file none there =
    same_members (numbers_from number files) (number ∷ []) (Ascends-filter (λ a b. a < b) (λ n. not (nat_lt n number)) (numbers files) (ascend files)) ((λ k m. absurd m), tt) to back
  where
    to : (n : ℕ) → IsIn (numbers_from number files) n → IsIn (number ∷ []) n
    to n m =
        let high = none_there files number n none (IsIn-filter (λ k. not (nat_lt k number)) (numbers files) n m) in
        let low = low_of (nat_lt n number) refl (IsIn-filter_passes (λ k. not (nat_lt k number)) (numbers files) n m) in
        inl (omega (arith, high, low))
      where
        low_of : (b : Bool) → nat_lt n number ≡ b → not (nat_lt n number) ≡ true → number ≤ n
        low_of true e t = let never : false ≡ true = sym (ap not e) ∙ t in absurd (cc)
        low_of false e t = ltb-false n number e

    back : (n : ℕ) → IsIn (number ∷ []) n → IsIn (numbers_from number files) n
    back n (inl same) = subst (IsIn (numbers_from number files)) same (filter-IsIn (λ k. not (nat_lt k number)) (numbers files) number (there_in files number file there) (ap not (le-ltb number number (omega arith))))
    back n (inr none) = absurd none

-- where the segments below the last one are gone, it is left alone
pub swept_numbers : (number : ℕ) (x y : Files) (file : List ℕ) → NoneAbove number x → get x (segment number) ≡ Some file → y ≡ without_files (segments_below number x) x → numbers y ≡ number ∷ []
swept_numbers number x y file none there is = same_members (numbers y) (number ∷ []) (ascend y) ((λ k m. absurd m), tt) to back
  where
    in_x : (n : ℕ) → IsIn (numbers y) n → IsIn (numbers x) n
    in_x n m = listed_as x y n (λ e. ap (λ (w : Files). get w (segment n)) is ∙ none_stays (segments_below number x) x (segment n) e) m

    to : (n : ℕ) → IsIn (numbers y) n → IsIn (number ∷ []) n
    to n m = by (nat_lt n number) refl
      where
        by : (b : Bool) → nat_lt n number ≡ b → IsIn (number ∷ []) n
        by true e =
            let below : IsIn (numbers_below number x) n = filter-IsIn (λ k. nat_lt k number) (numbers x) n (in_x n m) e in
            let gone : get y (segment n) ≡ None = ap (λ (w : Files). get w (segment n)) is ∙ gone_none (segments_below number x) x (segment n) (map-IsIn segment (numbers_below number x) n below) in
            let there_y = in_there y n m in
            absurd (cc)
        by false e = let low = ltb-false n number e in let high = none_there x number n none (in_x n m) in inl (omega (arith, low, high))

    back : (n : ℕ) → IsIn (number ∷ []) n → IsIn (numbers y) n
    back n (inl same) =
        let out : IsIn (segments_below number x) (segment number) → ⊥ = λ m. (let b = (in_below (numbers x) number number (named_in (numbers_below number x) number m)).1 in absurd (omega (arith, b))) in
        subst (IsIn (numbers y)) same (there_in y number file (ap (λ (w : Files). get w (segment number)) is ∙ left_same (segments_below number x) x (segment number) out ∙ there))
    back n (inr none) = absurd none
