-- The first points of two contents are merged.
use Rattle.std.proofs.Common.{◌≡◌, ℕ, ◌+◌, ◌<◌, ◌≤◌, ℤ, List, [], ◌∷◌, ◌++◌, length, refl, sym, ap, ◌∙◌, subst, inl, inr, arith, length-append}
use Rattle.std.specs.Prelude.{◌⊎◌, Option, Some, None}
use Rattle.std.specs.FinMap.{get}
use Rattle.std.specs.Ordering.{ordering_reverse}
use Rattle.std.specs.declared.cmp.Ordering.TheVariants.{Less, Equal, Greater}
use Rattle.m3_model.specs.Answers.{HasPoint}
use Rattle.m3_model.specs.Contents.{Contents, higher, key_of}
use Rattle.m3_model.specs.Keys.{key_cmp, key_cmp_total}
use Rattle.m3_model.specs.declared.point.Key.{Key}
use Rattle.m3_model.specs.declared.point.Point.{Point}
use Rattle.m3_model.proofs.Keyed.{key_cmp-IsAntisymmetric}
use Rattle.first_points.specs.Firsts.{IsPast, HasNonePast, IsNext, AreInTurn, last_key, AreFirst}
use Rattle.first_points.specs.Merges.{higher_of, IsJoinOf, which_next, higher_point, IsLeft, IsPartOfFirsts}
use Rattle.first_points.proofs.TurnLemmas.{past_later, not_itself, not_both, last_push, turn_push, none_later, next_later}

-- ---- which point is next

-- the list begins with a point above this key, or is empty
abbrev BeginsAbove : Key → List Point → Type 0
BeginsAbove a [] = ◌≡◌ {A = List Point} [] []
BeginsAbove a (y ∷ ys) = key_cmp a (key_of y) ≡ Less

next_of_one : (xs ys : List Point) → which_next xs ys ≡ Some Less → (x : Point) × (rest : List Point) × (xs ≡ x ∷ rest) × BeginsAbove (key_of x) ys
next_of_one [] [] e = cc
next_of_one [] (y ∷ ys) e = cc
next_of_one (x ∷ xs) [] e = (x, xs, refl, refl)
next_of_one (x ∷ xs) (y ∷ ys) e = let below : key_cmp (key_of x) (key_of y) ≡ Less = cc in (x, xs, refl, below)

next_of_other : (xs ys : List Point) → which_next xs ys ≡ Some Greater → (y : Point) × (rest : List Point) × (ys ≡ y ∷ rest) × BeginsAbove (key_of y) xs
next_of_other [] [] e = cc
next_of_other [] (y ∷ ys) e = (y, ys, refl, refl)
next_of_other (x ∷ xs) [] e = cc
next_of_other (x ∷ xs) (y ∷ ys) e =
    let above : key_cmp (key_of x) (key_of y) ≡ Greater = cc in (y, ys, refl, key_cmp_total.antisymm (key_of y) (key_of x) ∙ ap ordering_reverse above)

-- both lists begin with points at one key
record BeginAlike (xs ys : List Point) : Type 0 where
  x : Point
  y : Point
  xs_left : List Point
  ys_left : List Point
  xs_are : xs ≡ x ∷ xs_left
  ys_are : ys ≡ y ∷ ys_left
  same : key_of x ≡ key_of y

next_of_both : (xs ys : List Point) → which_next xs ys ≡ Some Equal → BeginAlike xs ys
next_of_both [] [] e = cc
next_of_both [] (y ∷ ys) e = cc
next_of_both (x ∷ xs) [] e = cc
next_of_both (x ∷ xs) (y ∷ ys) e =
    let tied : key_cmp (key_of x) (key_of y) ≡ Equal = cc in record { x = x; y = y; xs_left = xs; ys_left = ys; xs_are = refl; ys_are = refl; same = key_cmp-IsAntisymmetric (key_of x) (key_of y) tied }

none_next : (xs ys : List Point) → which_next xs ys ≡ None → (xs ≡ []) × (ys ≡ [])
none_next [] [] e = (refl, refl)
none_next [] (y ∷ ys) e = cc
none_next (x ∷ xs) [] e = cc
none_next (x ∷ xs) (y ∷ ys) e = cc

-- ---- what is left

-- of a list that begins above a key, all is left when the point at the key is done
left_moved : (c : Contents) (last : Option Key) (limit done : ℕ) (a : Key) (ys : List Point) → IsLeft c last limit done ys → IsPast last a → BeginsAbove a ys → IsLeft c (Some a) limit (done + 1) ys
left_moved c last limit done a [] left past above = record { in_turn = tt; all = λ few. none_later c last a (left.all (omega (arith, few))) past }
left_moved c last limit done a (y ∷ ys) left past above = record { in_turn = (next_later c last a y left.in_turn.0 past above, left.in_turn.1); all = λ few. left.all (omega (arith, few)) }

-- of a list whose first point is done, the others are left
left_behind : (c : Contents) (last : Option Key) (limit done : ℕ) (x : Point) (xs : List Point) → IsLeft c last limit done (x ∷ xs) → IsLeft c (Some (key_of x)) limit (done + 1) xs
left_behind c last limit done x xs left = record { in_turn = left.in_turn.1; all = λ few. left.all (omega (arith, few)) }

-- nothing of the content stands past the one key up to below the other
abbrev IsClear : Contents → Option Key → Key → Type 0
IsClear c last a = (k : Key) (v : ℤ) → get c k ≡ Some v → IsPast last k → key_cmp k a ≡ Less → ⊥

-- neither up to below a key above which the list begins, nor at it
clear_below : (c : Contents) (last : Option Key) (limit done : ℕ) (a : Key) (ys : List Point) → IsLeft c last limit done ys → done < limit → BeginsAbove a ys → IsClear c last a
clear_below c last limit done a [] left few above k v here past low = left.all (omega (arith, few)) k v here past
clear_below c last limit done a (y ∷ ys) left few above k v here past low = left.in_turn.0.first k v here past (key_cmp_total.trans k a (key_of y) low above)

absent_at : (c : Contents) (last : Option Key) (limit done : ℕ) (a : Key) (ys : List Point) → IsLeft c last limit done ys → done < limit → IsPast last a → BeginsAbove a ys → get c a ≡ None
absent_at c last limit done a ys left few past above = by (get c a) refl ys left above
  where
    by : (o : Option ℤ) → get c a ≡ o → (ys : List Point) → IsLeft c last limit done ys → BeginsAbove a ys → get c a ≡ None
    by None e ys left above = e
    by (Some v) e [] left above = absurd (left.all (omega (arith, few)) a v e past)
    by (Some v) e (y ∷ ys) left above = absurd (left.in_turn.0.first a v e past above)

-- ---- the next point of the join

-- what stands in the join stands in one of the contents
source_of : (c d both : Contents) → IsJoinOf c d both → (k : Key) (v : ℤ) → get both k ≡ Some v → ((w : ℤ) × (get c k ≡ Some w)) ⊎ ((w : ℤ) × (get d k ≡ Some w))
source_of c d both join k v here = by (get c k) (get d k) refl refl (sym (join k) ∙ here)
  where
    by : (o p : Option ℤ) → get c k ≡ o → get d k ≡ p → higher_of o p ≡ Some v → ((w : ℤ) × (get c k ≡ Some w)) ⊎ ((w : ℤ) × (get d k ≡ Some w))
    by (Some w) p e f is = inl (w, e)
    by None (Some w) e f is = inr (w, f)
    by None None e f is = absurd (let bad : ◌≡◌ {A = Option ℤ} None (Some v) = is in cc)

join_clear : (c d both : Contents) → IsJoinOf c d both → (last : Option Key) (a : Key) → IsClear c last a → IsClear d last a → IsClear both last a
join_clear c d both join last a of_one of_other k v here past low =
    elim (source_of c d both join k v here) as (λ _. ⊥) [ inl s ↦ of_one k s.0 s.1 past low | inr s ↦ of_other k s.0 s.1 past low ]

next_by_one : (c d both : Contents) → IsJoinOf c d both → (last : Option Key) (x : Point) → IsNext c last x → get d (key_of x) ≡ None → IsClear d last (key_of x) → IsNext both last x
next_by_one c d both join last x next absent clear = record {
  stands = join (key_of x) ∙ ap (higher_of (get c (key_of x))) absent ∙ next.stands;
  past = next.past;
  first = join_clear c d both join last (key_of x) next.first clear;
}

next_by_other : (c d both : Contents) → IsJoinOf c d both → (last : Option Key) (y : Point) → IsNext d last y → get c (key_of y) ≡ None → IsClear c last (key_of y) → IsNext both last y
next_by_other c d both join last y next absent clear = record {
  stands = join (key_of y) ∙ ap (λ o. higher_of o (get d (key_of y))) absent ∙ ap (higher_of None) next.stands;
  past = next.past;
  first = join_clear c d both join last (key_of y) clear next.first;
}

next_by_both : (c d both : Contents) → IsJoinOf c d both → (last : Option Key) (x y : Point) → IsNext c last x → IsNext d last y → key_of x ≡ key_of y → IsNext both last (higher_point x y)
next_by_both c d both join last x y one other same = record {
  stands = join (key_of x) ∙ ap (λ o. higher_of o (get d (key_of x))) one.stands ∙ ap (higher_of (Some x.v)) (ap (get d) same ∙ other.stands);
  past = one.past;
  first = join_clear c d both join last (key_of x) one.first (subst (IsClear d last) (sym same) other.first);
}

-- ---- steps

module _ (c d both : Contents) (join : IsJoinOf c d both) (after : Option Key) (limit : ℕ) where
  abbrev Part : List Point → List Point → List Point → Type 0
  Part done one other = IsPartOfFirsts c d both after limit done one other

  -- what is left when one more is done
  pushed_left : (e : Contents) (done : List Point) (p : Point) (xs : List Point) → IsLeft e (Some (key_of p)) limit (length done + 1) xs → IsLeft e (last_key after (done ++ p ∷ [])) limit (length (done ++ p ∷ [])) xs
  pushed_left e done p xs left =
      let last : Some (key_of p) ≡ last_key after (done ++ p ∷ []) = sym (last_push after done p) in
      let count : length done + 1 ≡ length (done ++ p ∷ []) = (let l = length-append done (p ∷ []) in omega (arith, l)) in
      subst (λ k. IsLeft e k limit (length (done ++ p ∷ [])) xs) last (subst (λ n. IsLeft e (Some (key_of p)) limit n xs) count left)

  pushed_few : (done : List Point) (p : Point) → length done < limit → length (done ++ p ∷ []) ≤ limit
  pushed_few done p few = let l = length-append done (p ∷ []) in omega (arith, l, few)

  step_one : (done : List Point) (x : Point) (xs ys : List Point) → length done < limit → BeginsAbove (key_of x) ys → Part done (x ∷ xs) ys → Part (done ++ x ∷ []) xs ys
  step_one done x xs ys few above was =
      let last = last_key after done in
      let next = was.of_one.in_turn.0 in
      record {
        in_turn = turn_push both after done x was.in_turn
            (next_by_one c d both join last x next (absent_at d last limit (length done) (key_of x) ys was.of_other few next.past above) (clear_below d last limit (length done) (key_of x) ys was.of_other few above));
        few = pushed_few done x few;
        of_one = pushed_left c done x xs (left_behind c last limit (length done) x xs was.of_one);
        of_other = pushed_left d done x ys (left_moved d last limit (length done) (key_of x) ys was.of_other next.past above);
      }

  step_other : (done : List Point) (y : Point) (xs ys : List Point) → length done < limit → BeginsAbove (key_of y) xs → Part done xs (y ∷ ys) → Part (done ++ y ∷ []) xs ys
  step_other done y xs ys few above was =
      let last = last_key after done in
      let next = was.of_other.in_turn.0 in
      record {
        in_turn = turn_push both after done y was.in_turn
            (next_by_other c d both join last y next (absent_at c last limit (length done) (key_of y) xs was.of_one few next.past above) (clear_below c last limit (length done) (key_of y) xs was.of_one few above));
        few = pushed_few done y few;
        of_one = pushed_left c done y xs (left_moved c last limit (length done) (key_of y) xs was.of_one next.past above);
        of_other = pushed_left d done y ys (left_behind d last limit (length done) y ys was.of_other);
      }

  step_both : (done : List Point) (x y : Point) (xs ys : List Point) → length done < limit → key_of x ≡ key_of y → Part done (x ∷ xs) (y ∷ ys) → Part (done ++ higher_point x y ∷ []) xs ys
  step_both done x y xs ys few same was =
      let last = last_key after done in
      let z = higher_point x y in
      record {
        in_turn = turn_push both after done z was.in_turn (next_by_both c d both join last x y was.of_one.in_turn.0 was.of_other.in_turn.0 same);
        few = pushed_few done z few;
        of_one = pushed_left c done z xs (left_behind c last limit (length done) x xs was.of_one);
        of_other = pushed_left d done z ys (subst (λ k. IsLeft d (Some k) limit (length done + 1) ys) (sym same) (left_behind d last limit (length done) y ys was.of_other));
      }

  module _ (done xs ys : List Point) (few : length done < limit) (was : Part done xs ys) where
    pub moved_one : (done_then xs_then : List Point) → which_next xs ys ≡ Some Less → ((x : Point) (rest : List Point) → xs ≡ x ∷ rest → (xs_then ≡ rest) × (done_then ≡ done ++ x ∷ [])) → Part done_then xs_then ys
    moved_one done_then xs_then next move =
        let first = next_of_one xs ys next in
        let left = move first.0 first.1 first.2 in
        subst (λ l. Part l xs_then ys) (sym left.1) (subst (λ l. Part (done ++ first.0 ∷ []) l ys) (sym left.0) (step_one done first.0 first.1 ys few first.3 (subst (λ l. Part done l ys) first.2 was)))

    pub moved_other : (done_then ys_then : List Point) → which_next xs ys ≡ Some Greater → ((y : Point) (rest : List Point) → ys ≡ y ∷ rest → (ys_then ≡ rest) × (done_then ≡ done ++ y ∷ [])) → Part done_then xs ys_then
    moved_other done_then ys_then next move =
        let first = next_of_other xs ys next in
        let left = move first.0 first.1 first.2 in
        subst (λ l. Part l xs ys_then) (sym left.1) (subst (λ l. Part (done ++ first.0 ∷ []) xs l) (sym left.0) (step_other done first.0 xs first.1 few first.3 (subst (λ l. Part done xs l) first.2 was)))

    pub joined_both : (done_then xs_then ys_then : List Point) → which_next xs ys ≡ Some Equal
        → ((x y : Point) (xs_left ys_left : List Point) → xs ≡ x ∷ xs_left → ys ≡ y ∷ ys_left → (xs_then ≡ xs_left) × (ys_then ≡ ys_left) × (done_then ≡ done ++ higher_point x y ∷ [])) → Part done_then xs_then ys_then
    joined_both done_then xs_then ys_then next move =
        let first = next_of_both xs ys next in
        let left = move first.x first.y first.xs_left first.ys_left first.xs_are first.ys_are in
        let z = higher_point first.x first.y in
        let opened : Part done (first.x ∷ first.xs_left) (first.y ∷ first.ys_left) = subst (λ l. Part done l (first.y ∷ first.ys_left)) first.xs_are (subst (λ l. Part done xs l) first.ys_are was) in
        subst (λ l. Part l xs_then ys_then) (sym left.2) (subst (λ l. Part (done ++ z ∷ []) l ys_then) (sym left.0) (subst (λ l. Part (done ++ z ∷ []) first.xs_left l) (sym left.1)
        (step_both done first.x first.y first.xs_left first.ys_left few first.same opened)))

  -- ---- begin and end

  pub begun : (one other : List Point) → AreFirst c after limit one → AreFirst d after limit other → Part [] one other
  begun one other a b = record {
    in_turn = tt;
    few = omega arith;
    of_one = record { in_turn = a.in_turn; all = λ few. a.all (omega (arith, few)) };
    of_other = record { in_turn = b.in_turn; all = λ few. b.all (omega (arith, few)) };
  }

  pub ended_full : (done xs ys : List Point) → limit ≤ length done → Part done xs ys → AreFirst both after limit done
  ended_full done xs ys full was = record { in_turn = was.in_turn; few = was.few; all = λ few. absurd (omega (arith, full, few)) }

  pub ended : (done xs ys : List Point) → which_next xs ys ≡ None → Part done xs ys → AreFirst both after limit done
  ended done xs ys next was =
      let none = none_next xs ys next in
      let bare : Part done [] [] = subst (λ l. Part done l []) none.0 (subst (λ l. Part done xs l) none.1 was) in
      record {
        in_turn = was.in_turn;
        few = was.few;
        all = λ few k v here past.
            elim (source_of c d both join k v here) as (λ _. ⊥) [
              | inl s ↦ bare.of_one.all (omega (arith, few)) k s.0 s.1 past
              | inr s ↦ bare.of_other.all (omega (arith, few)) k s.0 s.1 past
            ];
      }

-- ---- fewer are left

pub fewer_of_one : (xs ys xs_then done done_then : List Point) → which_next xs ys ≡ Some Less → ((x : Point) (rest : List Point) → xs ≡ x ∷ rest → (xs_then ≡ rest) × (done_then ≡ done ++ x ∷ [])) → length xs_then + length ys < length xs + length ys
fewer_of_one xs ys xs_then done done_then next move =
    let first = next_of_one xs ys next in
    let left : length xs_then ≡ length first.1 = ap length (move first.0 first.1 first.2).0 in
    let was : length xs ≡ length (first.0 ∷ first.1) = ap length first.2 in
    omega arith

pub fewer_of_other : (xs ys ys_then done done_then : List Point) → which_next xs ys ≡ Some Greater → ((y : Point) (rest : List Point) → ys ≡ y ∷ rest → (ys_then ≡ rest) × (done_then ≡ done ++ y ∷ [])) → length xs + length ys_then < length xs + length ys
fewer_of_other xs ys ys_then done done_then next move =
    let first = next_of_other xs ys next in
    let less : length ys_then ≡ length first.1 = ap length (move first.0 first.1 first.2).0 in
    let was : length ys ≡ length (first.0 ∷ first.1) = ap length first.2 in
    omega arith

pub fewer_of_both : (xs ys xs_then ys_then done done_then : List Point) → which_next xs ys ≡ Some Equal
    → ((x y : Point) (xs_left ys_left : List Point) → xs ≡ x ∷ xs_left → ys ≡ y ∷ ys_left → (xs_then ≡ xs_left) × (ys_then ≡ ys_left) × (done_then ≡ done ++ higher_point x y ∷ [])) → length xs_then + length ys_then < length xs + length ys
fewer_of_both xs ys xs_then ys_then done done_then next move =
    let first = next_of_both xs ys next in
    let moved = move first.x first.y first.xs_left first.ys_left first.xs_are first.ys_are in
    let one_less : length xs_then ≡ length first.xs_left = ap length moved.0 in
    let other_less : length ys_then ≡ length first.ys_left = ap length moved.1 in
    let one_was : length xs ≡ length (first.x ∷ first.xs_left) = ap length first.xs_are in
    let other_was : length ys ≡ length (first.y ∷ first.ys_left) = ap length first.ys_are in
    omega arith
