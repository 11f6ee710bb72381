-- What a list keeps that is put in another order.
use Rattle.std.proofs.Common.{◌≡◌, ◌+◌, ◌<◌, ℕ, zero, suc, List, [], ◌∷◌, ◌++◌, length, get_or, filter, refl, sym, ap, subst, ◌∙◌, inl, inr, Bool, true, false, cond, ◌||◌, IsPermutation, Contains, arith}
use Rattle.std.specs.Prelude.{◌⊎◌, count_by, sum_by}
use Rattle.std.specs.List.{flat_map, list_any}
use Rattle.std.proofs.lemmas.List.Folds.{list_any-append}
use Rattle.std.proofs.lemmas.List.Sorted.{Contains-permutation, list_any-IsPermutation, sum_by-IsPermutation}
use Rattle.std.proofs.lemmas.List.Sums.{sum_by-append, sum_by-cons}
use Rattle.m3_model.specs.Members.{IsIn}
use Rattle.m3_model.proofs.MemberLemmas.{IsIn-append_left, IsIn-append_right, IsIn-append_cases}

pub IsIn-at : {X : Type 0} (xs : List X) (k : ℕ) (d : X) → k < length xs → IsIn xs (get_or xs k d)
IsIn-at [] k d h = absurd (omega arith)
IsIn-at (x ∷ xs) zero d h = inl refl
IsIn-at (x ∷ xs) (suc k) d h = inr (IsIn-at xs k d (omega arith))

Contains-IsIn : {X : Type 0} (xs : List X) (x : X) → IsIn xs x → Contains xs x
Contains-IsIn [] x h = absurd h
Contains-IsIn (y ∷ ys) x h =
    elim h as (λ _. Contains (y ∷ ys) x) [
      | inl e ↦ (0, omega arith, e)
      | inr r ↦ let found = Contains-IsIn ys x r in (suc found.0, omega (arith, found.1), found.2)
    ]

-- the same members
pub IsIn-moved : {X : Type 0} (xs ys : List X) → IsPermutation xs ys → (x : X) → IsIn xs x → IsIn ys x
IsIn-moved xs ys moved x h = let found = Contains-permutation xs ys x moved (Contains-IsIn xs x h) in subst (IsIn ys) found.2 (IsIn-at ys found.0 x found.1)

pub flat-IsIn : {X Y : Type 0} (f : X → List Y) (xs : List X) (x : X) (y : Y) → IsIn xs x → IsIn (f x) y → IsIn (flat_map f xs) y
flat-IsIn f [] x y h m = absurd h
flat-IsIn f (z ∷ xs) x y h m =
    elim h as (λ _. IsIn (f z ++ flat_map f xs) y) [
      | inl e ↦ IsIn-append_left (f z) (flat_map f xs) y (subst (λ w. IsIn (f w) y) (sym e) m)
      | inr r ↦ IsIn-append_right (f z) (flat_map f xs) y (flat-IsIn f xs x y r m)
    ]

pub IsIn-flat : {X Y : Type 0} (f : X → List Y) (xs : List X) (y : Y) → IsIn (flat_map f xs) y → (x : X) × IsIn xs x × IsIn (f x) y
IsIn-flat f [] y h = absurd h
IsIn-flat f (z ∷ xs) y h =
    elim (IsIn-append_cases (f z) (flat_map f xs) y h) as (λ _. (x : _) × ((z ≡ x) ⊎ IsIn xs x) × IsIn (f x) y) [
      | inl m ↦ (z, inl refl, m)
      | inr r ↦ let found = IsIn-flat f xs y r in (found.0, inr found.1, found.2)
    ]

-- and the same of the lists that they give
pub flat_moved : {X Y : Type 0} (f : X → List Y) (xs ys : List X) → IsPermutation xs ys → (y : Y) → IsIn (flat_map f xs) y → IsIn (flat_map f ys) y
flat_moved f xs ys moved y h = let found = IsIn-flat f xs y h in flat-IsIn f ys found.0 y (IsIn-moved xs ys moved found.0 found.1) found.2

filter_by : {X : Type 0} (p : X → Bool) (y : X) (ys : List X) (x : X) (b : Bool) → p y ≡ b → (IsIn (filter p ys) x → IsIn ys x × (p x ≡ true))
    → IsIn (cond b (y ∷ filter p ys) (filter p ys)) x → ((y ≡ x) ⊎ IsIn ys x) × (p x ≡ true)
filter_by p y ys x true is later h =
    elim h as (λ _. ((y ≡ x) ⊎ IsIn ys x) × (p x ≡ true)) [
      | inl e ↦ (inl e, sym (ap p e) ∙ is)
      | inr r ↦ let found = later r in (inr found.0, found.1)
    ]
filter_by p y ys x false is later h = let found = later h in (inr found.0, found.1)

pub IsIn-filter : {X : Type 0} (p : X → Bool) (xs : List X) (x : X) → IsIn (filter p xs) x → IsIn xs x × (p x ≡ true)
IsIn-filter p [] x h = absurd h
IsIn-filter p (y ∷ ys) x h = filter_by p y ys x (p y) refl (IsIn-filter p ys x) h

by_filter : {X : Type 0} (p : X → Bool) (y : X) (ys : List X) (x : X) (b : Bool) → p y ≡ b → (IsIn ys x → IsIn (filter p ys) x) → (y ≡ x) ⊎ IsIn ys x → p x ≡ true
    → IsIn (cond b (y ∷ filter p ys) (filter p ys)) x
by_filter p y ys x true is later h holds = elim h as (λ _. (y ≡ x) ⊎ IsIn (filter p ys) x) [ inl e ↦ inl e | inr r ↦ inr (later r) ]
by_filter p y ys x false is later h holds = elim h as (λ _. IsIn (filter p ys) x) [ inl e ↦ absurd (let wrong : true ≡ false = sym holds ∙ sym (ap p e) ∙ is in cc) | inr r ↦ later r ]

pub filter-IsIn : {X : Type 0} (p : X → Bool) (xs : List X) (x : X) → IsIn xs x → p x ≡ true → IsIn (filter p xs) x
filter-IsIn p [] x h holds = absurd h
filter-IsIn p (y ∷ ys) x h holds = by_filter p y ys x (p y) refl (λ r. filter-IsIn p ys x r holds) h holds

any-flat : {X Y : Type 0} (p : Y → Bool) (f : X → List Y) (xs : List X) → list_any p (flat_map f xs) ≡ list_any (λ x. list_any p (f x)) xs
any-flat p f [] = refl
any-flat p f (x ∷ xs) = list_any-append p (f x) (flat_map f xs) ∙ ap (λ b. list_any p (f x) || b) (any-flat p f xs)

-- some of them passes
pub any_moved : {X Y : Type 0} (p : Y → Bool) (f : X → List Y) (xs ys : List X) → IsPermutation xs ys → list_any p (flat_map f xs) ≡ list_any p (flat_map f ys)
any_moved p f xs ys moved = any-flat p f xs ∙ list_any-IsPermutation (λ x. list_any p (f x)) xs ys moved ∙ sym (any-flat p f ys)

count-flat : {X Y : Type 0} (p : Y → Bool) (f : X → List Y) (xs : List X) → count_by p (flat_map f xs) ≡ sum_by (λ x. count_by p (f x)) xs
count-flat p f [] = refl
count-flat p f (x ∷ xs) =
    sum_by-append (λ y. cond (p y) 1 0) (f x) (flat_map f xs) ∙ ap (λ n. count_by p (f x) + n) (count-flat p f xs) ∙ sym (sum_by-cons (λ x. count_by p (f x)) x xs)

-- as many of them pass
pub count_moved : {X Y : Type 0} (p : Y → Bool) (f : X → List Y) (xs ys : List X) → IsPermutation xs ys → count_by p (flat_map f xs) ≡ count_by p (flat_map f ys)
count_moved p f xs ys moved = count-flat p f xs ∙ sym (sum_by-IsPermutation (λ x. count_by p (f x)) xs ys moved) ∙ sym (count-flat p f ys)
