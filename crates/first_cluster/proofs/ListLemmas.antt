-- Lists as loops go over them: what was passed, the element, and what is left.
use Rattle.std.proofs.Common.{◌≡◌, ◌<◌, ◌≤◌, ◌+◌, ℕ, zero, suc, List, [], ◌∷◌, ◌++◌, length, take, drop, get_or, replicate, refl, sym, ap, subst, ◌∙◌, inl, inr, arith, Bool, true, false, cond, ◌||◌}
use Rattle.std.specs.Prelude.{filter, nat_eq}
use Rattle.std.specs.List.{list_any}
use Rattle.std.proofs.lemmas.Bool.{eq-eqb}
use Rattle.std.proofs.lemmas.List.{get_or_default}
use Rattle.m3_model.specs.Ascends.{Ascends}
use Rattle.m3_model.specs.Members.{IsIn}
use Rattle.m3_model.proofs.MemberLemmas.{IsIn-append_right, IsIn-append_cases}

pub replicate_push : {X : Type 0} (n : ℕ) (x : X) → replicate (n + 1) x ≡ replicate n x ++ x ∷ []
replicate_push zero x = refl
replicate_push (suc n) x = let next : suc n + 1 ≡ suc (n + 1) = omega arith in ap (λ k. replicate k x) next ∙ ap (λ xs. x ∷ xs) (replicate_push n x)

pub take_push : {X : Type 0} (xs : List X) (i : ℕ) (x : X) → i < length xs → x ≡ get_or xs i x → take (i + 1) xs ≡ take i xs ++ x ∷ []
take_push [] i x h e = absurd (omega (arith, h))
take_push (y ∷ xs) zero x h e = ap (λ z. z ∷ []) (sym e)
take_push (y ∷ xs) (suc i) x h e = let next : suc i + 1 ≡ suc (i + 1) = omega arith in ap (λ k. take k (y ∷ xs)) next ∙ ap (λ zs. y ∷ zs) (take_push xs i x (omega (arith, h)) e)

-- the same, of an element as a loop reads it
pub take_at : {X : Type 0} (xs : List X) (i : ℕ) (d : X) → i < length xs → take (i + 1) xs ≡ take i xs ++ get_or xs i d ∷ []
take_at xs i d low = take_push xs i (get_or xs i d) low (get_or_default xs i d (get_or xs i d) low)

pub take_whole : {X : Type 0} (xs : List X) (n : ℕ) → length xs ≤ n → take n xs ≡ xs
take_whole [] zero h = refl
take_whole [] (suc n) h = refl
take_whole (x ∷ xs) zero h = absurd (omega (arith, h))
take_whole (x ∷ xs) (suc n) h = ap (λ ys. x ∷ ys) (take_whole xs n (omega (arith, h)))

pub take_short : {X : Type 0} (xs : List X) (i : ℕ) → length (take i xs) ≤ i
take_short [] zero = omega arith
take_short [] (suc i) = omega arith
take_short (x ∷ xs) zero = omega arith
take_short (x ∷ xs) (suc i) = let rest = take_short xs i in omega (arith, rest)

-- what stands before an element, it, and what stands behind
pub parted : {X : Type 0} (xs : List X) (i : ℕ) (d : X) → i < length xs → xs ≡ take i xs ++ get_or xs i d ∷ drop (suc i) xs
parted [] i d h = absurd (omega (arith, h))
parted (y ∷ xs) zero d h = refl
parted (y ∷ xs) (suc i) d h = ap (λ zs. y ∷ zs) (parted xs i d (omega (arith, h)))

pub filter_append : {X : Type 0} (f : X → Bool) (xs ys : List X) → filter f (xs ++ ys) ≡ filter f xs ++ filter f ys
filter_append f [] ys = refl
filter_append f (x ∷ xs) ys = by_test (f x) (filter_append f xs ys)
  where
    by_test : (b : Bool) → filter f (xs ++ ys) ≡ filter f xs ++ filter f ys → cond b (x ∷ filter f (xs ++ ys)) (filter f (xs ++ ys)) ≡ cond b (x ∷ filter f xs) (filter f xs) ++ filter f ys
    by_test true e = ap (λ zs. x ∷ zs) e
    by_test false e = e

-- an element of a list that ascends isn't among those before it
pub not_before : {X : Type 0} (R : X → X → Type 0) (xs ys : List X) (x : X) → Ascends R (xs ++ x ∷ ys) → IsIn xs x → R x x
not_before R [] ys x up i = absurd i
not_before R (y ∷ xs) ys x up i =
    elim i as (λ _. R x x) [
      | inl same ↦ subst (λ z. R z x) same (up.0 x (IsIn-append_right xs (x ∷ ys) x (inl refl)))
      | inr later ↦ not_before R xs ys x up.1 later
    ]

pub append_nil : {X : Type 0} (xs : List X) → xs ++ [] ≡ xs
append_nil [] = refl
append_nil (x ∷ xs) = ap (λ ys. x ∷ ys) (append_nil xs)

-- of elements that pass a test: one that does
pub filter_one : {X : Type 0} (f : X → Bool) (x : X) (ys : List X) → f x ≡ true → filter f (x ∷ ys) ≡ x ∷ filter f ys
filter_one f x ys e = ap (λ b. cond b (x ∷ filter f ys) (filter f ys)) e

-- and one that doesn't
pub filter_none : {X : Type 0} (f : X → Bool) (x : X) (ys : List X) → f x ≡ false → filter f (x ∷ ys) ≡ filter f ys
filter_none f x ys e = ap (λ b. cond b (x ∷ filter f ys) (filter f ys)) e

-- those that pass, as a loop passes an element that does
pub filter_more : {X : Type 0} (f : X → Bool) (xs : List X) (i : ℕ) (d : X) → i < length xs → f (get_or xs i d) ≡ true → filter f (take (i + 1) xs) ≡ filter f (take i xs) ++ get_or xs i d ∷ []
filter_more f xs i d low e =
    ap (filter f) (take_at xs i d low) ∙ filter_append f (take i xs) (get_or xs i d ∷ []) ∙ ap (λ ys. filter f (take i xs) ++ ys) (filter_one f (get_or xs i d) [] e)

-- and as it passes one that doesn't
pub filter_same : {X : Type 0} (f : X → Bool) (xs : List X) (i : ℕ) (d : X) → i < length xs → f (get_or xs i d) ≡ false → filter f (take (i + 1) xs) ≡ filter f (take i xs)
filter_same f xs i d low e =
    ap (filter f) (take_at xs i d low) ∙ filter_append f (take i xs) (get_or xs i d ∷ []) ∙ ap (λ ys. filter f (take i xs) ++ ys) (filter_none f (get_or xs i d) [] e) ∙ append_nil (filter f (take i xs))

-- those that pass, around one that does
pub filter_parted : {X : Type 0} (f : X → Bool) (xs : List X) (i : ℕ) (d : X) → i < length xs → f (get_or xs i d) ≡ true
    → filter f xs ≡ filter f (take i xs) ++ get_or xs i d ∷ filter f (drop (suc i) xs)
filter_parted f xs i d low e =
    ap (filter f) (parted xs i d low) ∙ filter_append f (take i xs) (get_or xs i d ∷ drop (suc i) xs) ∙ ap (λ ys. filter f (take i xs) ++ ys) (filter_one f (get_or xs i d) (drop (suc i) xs) e)

or_later : (a b : Bool) → b ≡ true → (a || b) ≡ true
or_later true b e = refl
or_later false b e = e

-- a number that is among them passes the test of being one of them
pub any_of : (ns : List ℕ) (n : ℕ) → IsIn ns n → list_any (nat_eq n) ns ≡ true
any_of [] n i = absurd i
any_of (m ∷ ns) n i =
    elim i as (λ _. (nat_eq n m || list_any (nat_eq n) ns) ≡ true) [
      | inl same ↦ ap (λ t. t || list_any (nat_eq n) ns) (eq-eqb n m (sym same))
      | inr later ↦ or_later (nat_eq n m) (list_any (nat_eq n) ns) (any_of ns n later)
    ]

-- ---- lists that ascend

pub ascends_on : {X : Type 0} (R S : X → X → Type 0) (xs : List X) → ((x y : X) → R x y → S x y) → Ascends R xs → Ascends S xs
ascends_on R S [] on_each h = tt
ascends_on R S (x ∷ xs) on_each h = (λ y i. on_each x y (h.0 y i), ascends_on R S xs on_each h.1)

pub ascends_append : {X : Type 0} (R : X → X → Type 0) (xs ys : List X) → Ascends R xs → Ascends R ys → ((x y : X) → IsIn xs x → IsIn ys y → R x y) → Ascends R (xs ++ ys)
ascends_append R [] ys hx hy across = hy
ascends_append R (x ∷ xs) ys hx hy across = (
  λ y i. elim (IsIn-append_cases xs ys y i) as (λ _. R x y) [ inl a ↦ hx.0 y a | inr b ↦ across x y (inl refl) b ],
  ascends_append R xs ys hx.1 hy (λ z y i j. across z y (inr i) j),
)

-- an element as a loop reads it is one of the list
pub from_loop : {X : Type 0} (xs : List X) (i : ℕ) (d : X) → i < length xs → IsIn xs (get_or xs i d)
from_loop [] i d low = absurd (omega (arith, low))
from_loop (x ∷ xs) zero d low = inl refl
from_loop (x ∷ xs) (suc i) d low = inr (from_loop xs i d (omega (arith, low)))
