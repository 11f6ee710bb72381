-- What a list has at a position, after one came last, or the last took the place of another.
use Rattle.std.proofs.Common.{◌≡◌, ◌≢◌, ℕ, zero, suc, ◌+◌, ◌-◌, ◌<◌, List, [], ◌∷◌, ◌++◌, length, get_or, refl, sym, ap, ◌∙◌, inl, inr, Bool, true, false, nat_eq, arith}
use Rattle.std.specs.Prelude.{◌⊎◌, Some, slice_get, slice_set, swap_remove}
use Rattle.std.proofs.lemmas.Bool.{eqb-true, eqb-false}
use Rattle.std.proofs.lemmas.List.{length-take, length-set, get_or-take, get_or-set_same, get_or-set_other}
use Rattle.std.proofs.lemmas.Option.{slice_get-get_or, slice_get_within}

-- two numbers are the same, or differ
pub eq_or_not : (a b : ℕ) → (a ≡ b) ⊎ (a ≢ b)
eq_or_not a b = by_test (nat_eq a b) refl
  where
    by_test : (t : Bool) → nat_eq a b ≡ t → (a ≡ b) ⊎ (a ≢ b)
    by_test true e = inl (eqb-true a b e)
    by_test false e = inr (eqb-false a b e)

-- the new last one stands last
pub last_at : {X : Type 0} (xs : List X) (x : X) → slice_get (xs ++ x ∷ []) (length xs) ≡ Some x
last_at [] x = refl
last_at (y ∷ ys) x = last_at ys x

-- the others stand where they stood
pub stays_at : {X : Type 0} (xs : List X) (x : X) (p : ℕ) (y : X) → slice_get xs p ≡ Some y → slice_get (xs ++ x ∷ []) p ≡ Some y
stays_at [] x p y e = cc
stays_at (z ∷ zs) x zero y e = e
stays_at (z ∷ zs) x (suc p) y e = stays_at zs x p y e

-- one that stands there is an other, or the new last one
pub last_or_other : {X : Type 0} (xs : List X) (x : X) (p : ℕ) (y : X) → slice_get (xs ++ x ∷ []) p ≡ Some y → (slice_get xs p ≡ Some y) ⊎ ((p ≡ length xs) × (x ≡ y))
last_or_other [] x zero y e = inr (refl, let same : x ≡ y = cc in same)
last_or_other [] x (suc p) y e = cc
last_or_other (z ∷ zs) x zero y e = inl e
last_or_other (z ∷ zs) x (suc p) y e =
    elim (last_or_other zs x p y e) as (λ _. (slice_get zs p ≡ Some y) ⊎ ((suc p ≡ suc (length zs)) × (x ≡ y))) [
      | inl there ↦ inl there
      | inr new ↦ inr (ap suc new.0, new.1)
    ]

module _ {X : Type 0} (xs : List X) (position : ℕ) (d : X) (low : position < length xs) where
  abbrev last : X
  last = get_or xs (length xs - 1) d

  pub length-swapped : length (swap_remove xs position d) ≡ length xs - 1
  length-swapped =
      let a = length-take (length xs - 1) (slice_set xs position last) in
      let b = length-set xs position last in
      grind (arith)

  other : (p : ℕ) (e : X) → p + 1 < length xs → p ≢ position → get_or (swap_remove xs position d) p e ≡ get_or xs p e
  other p e h n = get_or-take (length xs - 1) (slice_set xs position last) p e (omega (arith, h)) ∙ get_or-set_other xs position p last e n

  moved : (e : X) → position + 1 < length xs → get_or (swap_remove xs position d) position e ≡ last
  moved e h = get_or-take (length xs - 1) (slice_set xs position last) position e (omega (arith, h)) ∙ get_or-set_same xs position last e low

  -- at the position, if it isn't the last, stands what stood last
  pub swapped_here : position + 1 < length xs → slice_get (swap_remove xs position d) position ≡ slice_get xs (length xs - 1)
  swapped_here h =
      let n = length-swapped in
      slice_get-get_or (swap_remove xs position d) position d (omega (arith, n, h)) ∙ ap Some (moved d h) ∙ sym (slice_get-get_or xs (length xs - 1) d (omega (arith, low)))

  -- at the others, but the last, stands what stood there
  pub swapped_there : (p : ℕ) → p + 1 < length xs → p ≢ position → slice_get (swap_remove xs position d) p ≡ slice_get xs p
  swapped_there p h n =
      let l = length-swapped in
      slice_get-get_or (swap_remove xs position d) p d (omega (arith, l, h)) ∙ ap Some (other p d h n) ∙ sym (slice_get-get_or xs p d (omega (arith, h)))

  pub swapped_within : (p : ℕ) (y : X) → slice_get (swap_remove xs position d) p ≡ Some y → p + 1 < length xs
  swapped_within p y e =
      let l = length-swapped in
      let h = slice_get_within (swap_remove xs position d) p y e in
      omega (arith, l, h)
