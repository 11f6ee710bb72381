-- The points above a key of a list that ascends.
use Rattle.std.proofs.Common.{◌≡◌, ◌++◌, ◌<◌, ◌≤◌, ℕ, suc, zero, List, [], ◌∷◌, Bool, true, false, not, Option, Some, None, length, drop, get_or, refl, sym, ap, subst, ◌∙◌, inl, inr, arith, true≢false}
use Rattle.std.proofs.Math.Seq.{drop-nil}
use Rattle.std.proofs.lemmas.Bool.{and_parts, and_from, not-false, not-true, cases_Bool}
use Rattle.std.specs.List.{filter}
use Rattle.std.specs.List.Sorted.{IsPartitionedBy, IsPartitionPoint}
use Rattle.std.specs.Ordering.{is_lt, ordering_reverse}
use Rattle.std.specs.declared.cmp.Ordering.{Ordering}
use Rattle.std.specs.declared.cmp.Ordering.TheVariants.{Less, Equal, Greater}
use Rattle.m3_model.specs.Ascends.{Ascends}
use Rattle.m3_model.specs.Contents.{key_of}
use Rattle.m3_model.specs.Keys.{key_cmp, key_cmp_total}
use Rattle.m3_model.specs.Members.{IsIn}
use Rattle.m3_model.specs.declared.point.Key.{Key}
use Rattle.m3_model.specs.declared.point.Point.{Point}
use Rattle.m3_model.proofs.Orders.{less_from}
use Rattle.page_cut.specs.Pages.{IsBefore, is_below_first, in_order, is_past, points_past}

-- a key isn't below itself, nor below one that is below it
own_reverse : (o : Ordering) → o ≡ ordering_reverse o → is_lt o ≡ false
own_reverse Less h = cc
own_reverse Equal h = refl
own_reverse Greater h = refl

not_itself : (k : Key) → is_lt (key_cmp k k) ≡ false
not_itself k = own_reverse (key_cmp k k) (key_cmp_total.antisymm k k)

not_earlier : (x y : Point) → IsBefore y x → is_past (Some (key_of x)) y ≡ false
not_earlier x y h = ap is_lt (key_cmp_total.antisymm (key_of x) (key_of y) ∙ ap ordering_reverse h)

-- what stands behind a point above the key is above it
pub past_later : (after : Option Key) (x y : Point) → is_past after x ≡ true → IsBefore x y → is_past after y ≡ true
past_later None x y h before = refl
past_later (Some k) x y h before = ap is_lt (key_cmp_total.trans k (key_of x) (key_of y) (less_from (key_cmp k (key_of x)) h) before)

pub filter_takes : (p : Point → Bool) (x : Point) (xs : List Point) → p x ≡ true → filter p (x ∷ xs) ≡ x ∷ filter p xs
filter_takes p x xs h = rw h

pub filter_leaves : (p : Point → Bool) (x : Point) (xs : List Point) → p x ≡ false → filter p (x ∷ xs) ≡ filter p xs
filter_leaves p x xs h = rw h

pub filter_all : (p : Point → Bool) (xs : List Point) → ((y : Point) → IsIn xs y → p y ≡ true) → filter p xs ≡ xs
filter_all p [] h = refl
filter_all p (x ∷ xs) h = filter_takes p x xs (h x (inl refl)) ∙ ap (λ ys. x ∷ ys) (filter_all p xs (λ y r. h y (inr r)))

pub past_none : (xs : List Point) → points_past None xs ≡ xs
past_none xs = filter_all (is_past None) xs (λ y r. refl)

-- the points above a key are the end of the list
pub past_is_end : (after : Option Key) (xs : List Point) → Ascends IsBefore xs → ((front : List Point) × (xs ≡ front ++ points_past after xs))
past_is_end after [] h = ([], refl)
past_is_end after (x ∷ xs) h =
    elim (cases_Bool (is_past after x)) as (λ _. (front : List Point) × (x ∷ xs ≡ front ++ points_past after (x ∷ xs))) [
      | inl past ↦ ([], sym (filter_takes (is_past after) x xs past ∙ ap (λ ys. x ∷ ys) (filter_all (is_past after) xs (λ y r. past_later after x y past (h.0 y r)))))
      | inr not_past ↦ let later = past_is_end after xs h.1 in (x ∷ later.0, ap (λ ys. x ∷ ys) later.1 ∙ ap (λ ys. x ∷ (later.0 ++ ys)) (sym (filter_leaves (is_past after) x xs not_past)))
    ]

-- those above a point's own key are those behind it
pub past_point : (front : List Point) (x : Point) (back : List Point) → Ascends IsBefore (front ++ x ∷ back) → points_past (Some (key_of x)) (front ++ x ∷ back) ≡ back
past_point [] x back h =
    filter_leaves (is_past (Some (key_of x))) x back (not_itself (key_of x)) ∙ filter_all (is_past (Some (key_of x))) back (λ y r. ap is_lt (h.0 y r))
past_point (y ∷ front) x back h =
    filter_leaves (is_past (Some (key_of x))) y (front ++ x ∷ back) (not_earlier x y (h.0 x (in_middle front))) ∙ past_point front x back h.1
  where
    in_middle : (ys : List Point) → IsIn (ys ++ x ∷ back) x
    in_middle [] = inl refl
    in_middle (z ∷ ys) = inr (in_middle ys)

-- what is past in a list whose first points aren't past and whose others are
pub past_from_position : (p : Point → Bool) (xs : List Point) (i : ℕ) → i ≤ length xs → ((k : ℕ) (d : Point) → k < i → p (get_or xs k d) ≡ false)
    → ((k : ℕ) (d : Point) → i ≤ k → k < length xs → p (get_or xs k d) ≡ true) → filter p xs ≡ drop i xs
past_from_position p [] i bound low high = sym (drop-nil i)
past_from_position p (x ∷ xs) zero bound low high =
    filter_takes p x xs (high 0 x (omega arith) (omega arith)) ∙ ap (λ ys. x ∷ ys) (past_from_position p xs zero (omega arith) (λ k d lt. absurd (omega arith)) (λ k d le lt. high (suc k) d (omega arith) (omega arith)))
past_from_position p (x ∷ xs) (suc i) bound low high =
    filter_leaves p x xs (low 0 x (omega arith)) ∙ past_from_position p xs i (omega arith) (λ k d lt. low (suc k) d (omega arith)) (λ k d le lt. high (suc k) d (omega arith) (omega arith))

at_position : (xs : List Point) (k : ℕ) (d : Point) → k < length xs → IsIn xs (get_or xs k d)
at_position [] k d h = absurd (omega arith)
at_position (x ∷ xs) zero d h = inl refl
at_position (x ∷ xs) (suc k) d h = inr (at_position xs k d (omega arith))

-- from a point above the key on, all are above it
later_positions : (after : Option Key) (xs : List Point) → Ascends IsBefore xs → (i j : ℕ) (d : Point) → i ≤ j → j < length xs → is_past after (get_or xs i d) ≡ true → is_past after (get_or xs j d) ≡ true
later_positions after [] up i j d le lt h = absurd (omega arith)
later_positions after (x ∷ xs) up zero zero d le lt h = h
later_positions after (x ∷ xs) up zero (suc j) d le lt h = past_later after x (get_or xs j d) h (up.0 (get_or xs j d) (at_position xs j d (omega arith)))
later_positions after (x ∷ xs) up (suc i) zero d le lt h = absurd (omega arith)
later_positions after (x ∷ xs) up (suc i) (suc j) d le lt h = later_positions after xs up.1 i j d (omega arith) (omega arith) h

-- so the points that aren't above it stand before those that are
pub partitioned : (after : Option Key) (xs : List Point) → Ascends IsBefore xs → IsPartitionedBy (λ x. not (is_past after x)) xs
partitioned after xs up i j d le lt h =
    elim (cases_Bool (is_past after (get_or xs i d))) as (λ _. not (is_past after (get_or xs i d)) ≡ true) [
      | inl past ↦ absurd (true≢false (sym (later_positions after xs up i j d le lt past) ∙ not-true (is_past after (get_or xs j d)) h))
      | inr not_past ↦ ap not not_past
    ]

-- what a search for the position finds
pub found_past : (after : Option Key) (xs : List Point) (i : ℕ) → i ≤ length xs → IsPartitionPoint (λ x. not (is_past after x) ≡ true) (λ x. not (is_past after x) ≡ false) xs i → drop i xs ≡ points_past after xs
found_past after xs i bound h =
    sym (past_from_position (is_past after) xs i bound (λ k d lt. not-true (is_past after (get_or xs k d)) (h.0 k d (omega arith) lt)) (λ k d le lt. not-false (is_past after (get_or xs k d)) (h.1 k d le lt)))

-- points ascend exactly where each is below the next one
pub ascend_from_next : (xs : List Point) → in_order xs ≡ true → Ascends IsBefore xs
ascend_from_next [] h = tt
ascend_from_next (x ∷ xs) h =
    let parts = and_parts _ _ h in
    let later = ascend_from_next xs parts.1 in
    (below_all x xs parts.0 later, later)
  where
    below_all : (x : Point) (xs : List Point) → is_below_first x xs ≡ true → Ascends IsBefore xs → (y : Point) → IsIn xs y → IsBefore x y
    below_all x [] first up y none = absurd none
    below_all x (z ∷ zs) first up y (inl same) = subst (IsBefore x) same (less_from (key_cmp (key_of x) (key_of z)) first)
    below_all x (z ∷ zs) first up y (inr behind) = key_cmp_total.trans (key_of x) (key_of z) (key_of y) (less_from (key_cmp (key_of x) (key_of z)) first) (up.0 y behind)

pub next_from_ascend : (xs : List Point) → Ascends IsBefore xs → in_order xs ≡ true
next_from_ascend [] h = refl
next_from_ascend (x ∷ xs) h = and_from _ _ (first_above x xs h.0) (next_from_ascend xs h.1)
  where
    first_above : (x : Point) (xs : List Point) → ((y : Point) → IsIn xs y → IsBefore x y) → is_below_first x xs ≡ true
    first_above x [] all = refl
    first_above x (y ∷ ys) all = ap is_lt (all y (inl refl))
