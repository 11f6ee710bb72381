-- Lists as loops go over them: those that pass a test, and what each of them brings; and lists with one element set.
use Rattle.std.proofs.Common.{◌≡◌, ◌≢◌, ◌<◌, ◌≤◌, ◌+◌, ◌*◌, ℕ, zero, suc, List, [], ◌∷◌, ◌++◌, length, take, drop, get_or, refl, sym, ap, ◌∙◌, arith, Bool, true, false, cond, length-append}
use Rattle.std.specs.Prelude.{Some, filter, slice_get, slice_set}
use Rattle.std.specs.List.{flat_map}
use Rattle.std.proofs.lemmas.Grind.{flat_map-append}
use Rattle.std.proofs.lemmas.List.{append-nil}
use Rattle.std.proofs.lemmas.List.Elements.{filter-append, filter_more}

-- what stands before an element, it, and what stands behind
parted : {X : Type 0} (xs : List X) (i : ℕ) (d : X) → i < length xs → xs ≡ take i xs ++ get_or xs i d ∷ drop (suc i) xs
parted [] i d h = absurd (omega (arith, h))
parted (y ∷ xs) zero d h = refl
parted (y ∷ xs) (suc i) d h = ap (λ zs. y ∷ zs) (parted xs i d (omega (arith, h)))

-- those that pass, as a loop passes an element that does
pub filter_yes : {X : Type 0} (f : X → Bool) (xs : List X) (i : ℕ) (d : X) → i < length xs → f (get_or xs i d) ≡ true → filter f (take (i + 1) xs) ≡ filter f (take i xs) ++ get_or xs i d ∷ []
filter_yes f xs i d low e = filter_more f xs i d low ∙ ap (λ b. filter f (take i xs) ++ cond b (get_or xs i d ∷ []) []) e

-- and as it passes one that doesn't
pub filter_no : {X : Type 0} (f : X → Bool) (xs : List X) (i : ℕ) (d : X) → i < length xs → f (get_or xs i d) ≡ false → filter f (take (i + 1) xs) ≡ filter f (take i xs)
filter_no f xs i d low e = filter_more f xs i d low ∙ ap (λ b. filter f (take i xs) ++ cond b (get_or xs i d ∷ []) []) e ∙ append-nil (filter f (take i xs))

-- those that pass, around one that does
pub filter_parted : {X : Type 0} (f : X → Bool) (xs : List X) (i : ℕ) (d : X) → i < length xs → f (get_or xs i d) ≡ true → filter f xs ≡ filter f (take i xs) ++ get_or xs i d ∷ filter f (drop (suc i) xs)
filter_parted f xs i d low e =
    ap (filter f) (parted xs i d low) ∙ filter-append f (take i xs) (get_or xs i d ∷ drop (suc i) xs)
    ∙ ap (λ b. filter f (take i xs) ++ cond b (get_or xs i d ∷ filter f (drop (suc i) xs)) (filter f (drop (suc i) xs))) e

-- so one more passes than those before it
pub filter_short : {X : Type 0} (f : X → Bool) (xs : List X) (i : ℕ) (d : X) → i < length xs → f (get_or xs i d) ≡ true → length (filter f (take i xs)) + 1 ≤ length (filter f xs)
filter_short f xs i d low e =
    let long : length (filter f xs) ≡ length (filter f (take i xs)) + length (get_or xs i d ∷ filter f (drop (suc i) xs)) = ap length (filter_parted f xs i d low e) ∙ length-append (filter f (take i xs)) (get_or xs i d ∷ filter f (drop (suc i) xs)) in
    omega (arith, long)

pub filter_few : {X : Type 0} (f : X → Bool) (xs : List X) → length (filter f xs) ≤ length xs
filter_few f [] = omega arith
filter_few f (x ∷ xs) = let rest = filter_few f xs in by_test (f x) rest
  where
    by_test : (b : Bool) → length (filter f xs) ≤ length xs → length (cond b (x ∷ filter f xs) (filter f xs)) ≤ suc (length xs)
    by_test true rest = omega (arith, rest)
    by_test false rest = omega (arith, rest)

-- ---- what each brings

pub flat_push : {X Y : Type 0} (f : X → List Y) (xs : List X) (x : X) → flat_map f (xs ++ x ∷ []) ≡ flat_map f xs ++ f x
flat_push f xs x = flat_map-append f xs (x ∷ []) ∙ ap (λ ys. flat_map f xs ++ ys) (append-nil (f x))

-- two each
pub flat_long : {X Y : Type 0} (f : X → List Y) → ((x : X) → length (f x) ≡ 2) → (xs : List X) → length (flat_map f xs) ≡ 2 * length xs
flat_long f two [] = refl
flat_long f two (x ∷ xs) = let both = length-append (f x) (flat_map f xs) in let here = two x in let rest = flat_long f two xs in omega (arith, both, here, rest)

-- how many pass, as a loop counts them
pub count_yes : {X : Type 0} (f : X → Bool) (xs : List X) (i : ℕ) (d : X) (count next : ℕ) → i < length xs → f (get_or xs i d) ≡ true → count ≡ length (filter f (take i xs)) → next ≡ count + 1 → next ≡ length (filter f (take (i + 1) xs))
count_yes f xs i d count next low e is more =
    let long : length (filter f (take (i + 1) xs)) ≡ length (filter f (take i xs)) + 1 = ap length (filter_yes f xs i d low e) ∙ length-append (filter f (take i xs)) (get_or xs i d ∷ []) in
    omega (arith, long, is, more)

pub count_no : {X : Type 0} (f : X → Bool) (xs : List X) (i : ℕ) (d : X) (count : ℕ) → i < length xs → f (get_or xs i d) ≡ false → count ≡ length (filter f (take i xs)) → count ≡ length (filter f (take (i + 1) xs))
count_no f xs i d count low e is = is ∙ ap length (sym (filter_no f xs i d low e))

-- ---- lists with one element set

pub set_here : {X : Type 0} (xs : List X) (i : ℕ) (x y : X) → slice_get xs i ≡ Some y → slice_get (slice_set xs i x) i ≡ Some x
set_here [] i x y e = cc
set_here (z ∷ xs) zero x y e = refl
set_here (z ∷ xs) (suc i) x y e = set_here xs i x y e

pub set_elsewhere : {X : Type 0} (xs : List X) (i j : ℕ) (x : X) → j ≢ i → slice_get (slice_set xs i x) j ≡ slice_get xs j
set_elsewhere [] zero j x other = refl
set_elsewhere [] (suc i) j x other = refl
set_elsewhere (z ∷ xs) zero zero x other = absurd (other refl)
set_elsewhere (z ∷ xs) zero (suc j) x other = refl
set_elsewhere (z ∷ xs) (suc i) zero x other = refl
set_elsewhere (z ∷ xs) (suc i) (suc j) x other = set_elsewhere xs i j x (λ e. other (ap suc e))
