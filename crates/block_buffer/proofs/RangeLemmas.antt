-- The ranges of the series at positions, of which some need no look.
use Rattle.std.proofs.Common.{◌≡◌, ℕ, zero, suc, ◌+◌, ◌*◌, ◌-◌, ◌^◌, ◌<◌, ◌≤◌, ℤ, List, [], ◌∷◌, ◌++◌, inl, inr, refl, sym, ap, subst, ◌∙◌, Bool, true, false, cond, length, take, append_assoc, arith}
use Rattle.std.specs.Prelude.{min, Option, Some, None, is_some, IsSome, nat_eq, nat_le, nat_lt, ◌&&◌, if◌then◌else◌, slice_get}
use Rattle.std.specs.List.{filter_map, flat_map, cons_option}
use Rattle.std.specs.FinMap as map
use Rattle.std.specs.FinMap.{entries, find, get-entries}
use Rattle.std.specs.Cmp.{nat_cmp_total, tied_itself}
use Rattle.std.specs.Ordering.{nat_cmp, eq_by_cmp, is_eq}
use Rattle.std.proofs.lemmas.Bool.{cases_lt, eqb-true}
use Rattle.std.proofs.lemmas.Bool.Decides.{nat_tests}
use Rattle.series_slots.specs.declared.series_key.SeriesKey.{SeriesKey}
use Rattle.series_slots.specs.Slots.{Slots, valued, valued_in}
use Rattle.series_slots.specs.Ranges.{some_series, series_in}
use Rattle.series_slots.specs.SeriesEntries.{SeriesEntries}
use Rattle.block_buffer.specs.Spots.{group_of, IsLate}

-- ---- one after the other

pub none_more : {X : Type 0} (xs : List X) (p : ℕ) → length xs ≤ p → take p xs ≡ xs
none_more [] zero le = refl
none_more [] (suc p) le = refl
none_more (x ∷ xs) zero le = absurd (omega (arith, le))
none_more (x ∷ xs) (suc p) le = ap (λ l. x ∷ l) (none_more xs p (omega (arith, le)))

module _ {X Y : Type 0} (f : X → List Y) where
  append-nil : (ys : List Y) → ys ++ [] ≡ ys
  append-nil [] = refl
  append-nil (y ∷ ys) = ap (λ (l : List Y). y ∷ l) (append-nil ys)

  -- those that answer nothing may be left out
  pub left_out : (xs : List X) (a b : ℕ) → a ≤ b → ((p : ℕ) (x : X) → a ≤ p → p < b → slice_get xs p ≡ Some x → f x ≡ []) → flat_map f (take b xs) ≡ flat_map f (take a xs)
  left_out [] zero zero le none = refl
  left_out [] zero (suc b) le none = refl
  left_out [] (suc a) zero le none = refl
  left_out [] (suc a) (suc b) le none = refl
  left_out (x ∷ xs) zero zero le none = refl
  left_out (x ∷ xs) (suc a) zero le none = absurd (omega (arith, le))
  left_out (x ∷ xs) zero (suc b) le none =
      ap (λ (l : List Y). l ++ flat_map f (take b xs)) (none 0 x (omega arith) (omega arith) refl) ∙ left_out xs zero b (omega arith) (λ p y low high at. none (suc p) y (omega arith) (omega (arith, high)) at)
  left_out (x ∷ xs) (suc a) (suc b) le none = ap (λ (l : List Y). f x ++ l) (left_out xs a b (omega (arith, le)) (λ p y low high at. none (suc p) y (omega (arith, low)) (omega (arith, high)) at))

  one_after : (xs : List X) (p : ℕ) (x : X) → slice_get xs p ≡ Some x → flat_map f (take (suc p) xs) ≡ flat_map f (take p xs) ++ f x
  one_after [] p x at = cc
  one_after (y ∷ ys) zero x at = let same : y ≡ x = cc in append-nil (f y) ∙ ap f same
  one_after (y ∷ ys) (suc p) x at = ap (λ (l : List Y). f y ++ l) (one_after ys p x at) ∙ sym (append_assoc (f y) (flat_map f (take p ys)) (f x))

  pub one_more : (xs : List X) (p : ℕ) (x : X) → slice_get xs p ≡ Some x → flat_map f (take (p + 1) xs) ≡ flat_map f (take p xs) ++ f x
  one_more xs p x at = let next : p + 1 ≡ suc p = omega arith in ap (λ (n : ℕ). flat_map f (take n xs)) next ∙ one_after xs p x at

-- ---- the positions of a group

pub first_taken : {X : Type 0} (xs : List X) (group first : ℕ) → first ≡ min (group * 16) (2 ^ 64 - 1) → length xs < 2 ^ 64 → take first xs ≡ take (group * 16) xs
first_taken xs group first one fits = elim (cases_lt (group * 16) (2 ^ 64)) as (λ _. take first xs ≡ take (group * 16) xs) [
  | inl short ↦ let same : first ≡ group * 16 = omega (arith, one, short) in ap (λ (n : ℕ). take n xs) same
  | inr long ↦ none_more xs first (omega (arith, one, long, fits)) ∙ sym (none_more xs (group * 16) (omega (arith, long, fits)))
]

pub group_taken : {X : Type 0} (xs : List X) (group first end position : ℕ) → first ≡ min (group * 16) (2 ^ 64 - 1) → end ≡ min (group * 16 + 16) (length xs) → length xs < 2 ^ 64 → end ≤ position → (first ≤ end → position ≤ end)
    → take position xs ≡ take ((group + 1) * 16) xs
group_taken xs group first end position one two fits past upto = elim (cases_lt (group * 16 + 16) (length xs)) as (λ _. take position xs ≡ take ((group + 1) * 16) xs) [
  | inl inner ↦
      let here : position ≤ end = upto (omega (arith, one, two, inner)) in
      let same : position ≡ (group + 1) * 16 = omega (arith, two, inner, past, here) in
      ap (λ (n : ℕ). take n xs) same
  | inr outer ↦ none_more xs position (omega (arith, two, outer, past)) ∙ sym (none_more xs ((group + 1) * 16) (omega (arith, outer)))
]

-- ---- series without points in the range

unvalued : (from to : ℕ) (x : ℕ × Option ℤ) → to ≤ x.0 → valued_in from to x ≡ None
unvalued from to x late = ap (λ b. if nat_le from x.0 && b then valued x else None) off ∙ by (nat_le from x.0)
  where
    off : nat_lt x.0 to ≡ false
    off = grind (arith, nat_tests)

    by : (b : Bool) → (if b && false then valued x else None) ≡ None
    by true = refl
    by false = refl

found_first : (x : ℕ × Option ℤ) (es : List (ℕ × Option ℤ)) → IsSome (find nat_cmp x.0 (x ∷ es))
found_first x es = ap is_some (ap (λ b. cond b (Some x.1) (find nat_cmp x.0 es)) (ap is_eq (tied_itself nat_cmp_total x.0)))

found_later : (t : ℕ) (x : ℕ × Option ℤ) (es : List (ℕ × Option ℤ)) → IsSome (find nat_cmp t es) → IsSome (find nat_cmp t (x ∷ es))
found_later t x es some = by (eq_by_cmp nat_cmp t x.0)
  where
    by : (b : Bool) → IsSome (cond b (Some x.1) (find nat_cmp t es))
    by true = refl
    by false = some

all_unvalued : (from to : ℕ) (es : List (ℕ × Option ℤ)) → ((t : ℕ) → IsSome (find nat_cmp t es) → to ≤ t) → filter_map (valued_in from to) es ≡ []
all_unvalued from to [] late = refl
all_unvalued from to (x ∷ es) late =
    ap (λ o. cons_option o (filter_map (valued_in from to) es)) (unvalued from to x (late x.0 (found_first x es)))
    ∙ all_unvalued from to es (λ t some. late t (found_later t x es some))

-- a series of which each slot comes after the range
late_series : (ns from to : ℕ) (e : SeriesKey × Slots) → ((t : ℕ) → e.0.ns ≡ ns → IsSome (map.get e.1 t) → to ≤ t) → series_in ns from to e ≡ []
late_series ns from to e late = by (nat_eq e.0.ns ns) refl
  where
    by : (b : Bool) → nat_eq e.0.ns ns ≡ b → cond b (some_series e.0.id (filter_map (valued_in from to) (entries e.1))) [] ≡ []
    by false is = refl
    by true is = ap (some_series e.0.id) (all_unvalued from to (entries e.1) (λ t some. late t (eqb-true e.0.ns ns is) (subst IsSome (sym (get-entries e.1 t)) some)))

-- the groups in between need no look
pub late_groups : (es : SeriesEntries) (ns from to high low next : ℕ) → to ≤ high + 1 → low ≤ next → ((p : ℕ) → low ≤ group_of p → group_of p < next → IsLate es ns high p)
    → flat_map (series_in ns from to) (take (next * 16) es) ≡ flat_map (series_in ns from to) (take (low * 16) es)
late_groups es ns from to high low next end le late =
    left_out (series_in ns from to) es (low * 16) (next * 16) (omega (arith, le)) (λ p e first last at. late_series ns from to e (λ t is some.
    let above = late p (omega (arith, first)) (omega (arith, last)) t e at is some in
    omega (arith, above, end)))

-- nor do those from there on
pub late_rest : (es : SeriesEntries) (ns from to high low : ℕ) → to ≤ high + 1 → ((p : ℕ) → low ≤ group_of p → IsLate es ns high p)
    → flat_map (series_in ns from to) es ≡ flat_map (series_in ns from to) (take (low * 16) es)
late_rest es ns from to high low end late =
    ap (flat_map (series_in ns from to)) (sym (none_more es (length es + low * 16) (omega arith)))
    ∙ left_out (series_in ns from to) es (low * 16) (length es + low * 16) (omega arith) (λ p e first last at. late_series ns from to e (λ t is some.
    let above = late p (omega (arith, first)) t e at is some in
    omega (arith, above, end)))
