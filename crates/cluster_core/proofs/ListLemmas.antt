-- Places in a list, its beginnings, and folds over them.
use Rattle.std.proofs.Common.{◌≡◌, ℕ, zero, suc, ◌+◌, ◌<◌, ◌≤◌, List, [], ◌∷◌, ◌++◌, take, drop, get_or, length, refl, sym, ap, ◌∙◌, subst, inl, inr, arith}
use Rattle.std.specs.Prelude.{Some, fold}
use Rattle.std.specs.List.{Any}
use Rattle.std.proofs.lemmas.Bool.{cases_eq}
use Rattle.std.proofs.lemmas.Option.{same_Some}
pub use Rattle.std.proofs.lemmas.Option.{same_Some as some_same}
use Rattle.m3_model.specs.Members.{IsIn}
use Rattle.placement_core.proofs.ListLemmas.{at_index}
use Rattle.cluster_core.specs.Lists.{At, AfterSome}

pub at_within : {X : Type 0} (xs : List X) (i : ℕ) (x : X) → At xs i x → i < length xs
at_within [] i x e = cc
at_within (y ∷ ys) zero x e = omega arith
at_within (y ∷ ys) (suc i) x e = omega (arith, at_within ys i x e)

pub at_some : {X : Type 0} (xs : List X) (i : ℕ) → i < length xs → (x : X) × At xs i x
at_some [] i h = absurd (omega arith)
at_some (y ∷ ys) zero h = (y, refl)
at_some (y ∷ ys) (suc i) h = at_some ys i (omega arith)

pub at_same : {X : Type 0} (xs : List X) (i : ℕ) (x y : X) → At xs i x → At xs i y → x ≡ y
at_same xs i x y e f = same_Some x y (sym e ∙ f)

pub at_in : {X : Type 0} (xs : List X) (i : ℕ) (x : X) → At xs i x → IsIn xs x
at_in [] i x e = cc
at_in (y ∷ ys) zero x e = inl (same_Some y x e)
at_in (y ∷ ys) (suc i) x e = inr (at_in ys i x e)

pub in_at : {X : Type 0} (xs : List X) (x : X) → IsIn xs x → (i : ℕ) × At xs i x
in_at [] x h = absurd h
in_at (y ∷ xs) x h = elim h as (λ _. (i : ℕ) × At (y ∷ xs) i x) [ inl e ↦ (zero, ap Some e) | inr r ↦ let l = in_at xs x r in (suc l.0, l.1) ]

-- what stands in a beginning stands in the list, before its end
pub at_take : {X : Type 0} (xs : List X) (i j : ℕ) (x : X) → At (take j xs) i x → At xs i x × (i < j)
at_take [] i zero x e = cc
at_take [] i (suc j) x e = cc
at_take (y ∷ ys) i zero x e = cc
at_take (y ∷ ys) zero (suc j) x e = (e, omega arith)
at_take (y ∷ ys) (suc i) (suc j) x e = let h = at_take ys i j x e in (h.0, omega (arith, h.1))

pub take_at : {X : Type 0} (xs : List X) (i j : ℕ) (x : X) → At xs i x → i < j → At (take j xs) i x
take_at [] i j x e h = cc
take_at (y ∷ ys) i zero x e h = absurd (omega arith)
take_at (y ∷ ys) zero (suc j) x e h = e
take_at (y ∷ ys) (suc i) (suc j) x e h = take_at ys i j x e (omega arith)

-- what stands in a rest stands in the list, further on
pub drop_at : {X : Type 0} (xs : List X) (k j : ℕ) (x : X) → At (drop k xs) j x → At xs (k + j) x
drop_at xs zero j x e = let same : j ≡ 0 + j = omega arith in subst (λ n. At xs n x) same e
drop_at [] (suc k) j x e = cc
drop_at (y ∷ ys) (suc k) j x e = let same : suc (k + j) ≡ suc k + j = omega arith in subst (λ n. At (y ∷ ys) n x) same (drop_at ys k j x e)

pub at_append : {X : Type 0} (xs ys : List X) (i : ℕ) (x : X) → At xs i x → At (xs ++ ys) i x
at_append [] ys i x e = cc
at_append (y ∷ xs) ys zero x e = e
at_append (y ∷ xs) ys (suc i) x e = at_append xs ys i x e

-- ---- some element

read_at : {X : Type 0} (xs : List X) (i : ℕ) (x : X) → At xs i x → get_or xs i x ≡ x
read_at [] i x e = cc
read_at (y ∷ ys) zero x e = same_Some y x e
read_at (y ∷ ys) (suc i) x e = read_at ys i x e

pub at_any : {X : Type 0} (P : X → Type 0) (xs : List X) (i : ℕ) (x : X) → At xs i x → P x → Any P xs
at_any P xs i x e p = (i, x, at_within xs i x e, read_at xs i x e, p)

pub any_at : {X : Type 0} (P : X → Type 0) (xs : List X) → Any P xs → (i : ℕ) × (x : X) × At xs i x × P x
any_at P xs h = (h.0, h.1, at_index xs h.0 h.1 h.2 (sym h.3), h.4)

-- an element of the kind, at its position, and what is wanted of the rest
pub after_at : {X : Type 0} (Kind : X → Type 0) (Wanted : List X → Type 0) (xs : List X) → AfterSome Kind Wanted xs → (i : ℕ) × (x : X) × At xs i x × Kind x × Wanted (drop (suc i) xs)
after_at Kind Wanted [] h = absurd h
after_at Kind Wanted (y ∷ ys) h =
    elim h as (λ _. (i : ℕ) × (x : _) × At (y ∷ ys) i x × Kind x × Wanted (drop (suc i) (y ∷ ys))) [
      | inl here ↦ (zero, y, refl, here.0, here.1)
      | inr later ↦ let l = after_at Kind Wanted ys later in (suc l.0, l.1, l.2, l.3, l.4)
    ]

-- ---- folds

-- one more event is one more step of a fold
pub fold_suc : {X S : Type 0} (f : S → X → S) (a : S) (xs : List X) (i : ℕ) (x : X) → At xs i x → fold f a (take (suc i) xs) ≡ f (fold f a (take i xs)) x
fold_suc f a [] i x e = cc
fold_suc f a (y ∷ ys) zero x e = ap (f a) (same_Some y x e)
fold_suc f a (y ∷ ys) (suc i) x e = fold_suc f (f a y) ys i x e

-- what one event after the other keeps
pub along : {X : Type 0} (xs : List X) (P : ℕ → Type 0) (k : ℕ) → P k → ((i : ℕ) (x : X) → k ≤ i → At xs i x → P i → P (suc i)) → (j : ℕ) → k ≤ j → j ≤ length xs → P j
along xs P k start step zero low high = let e : k ≡ 0 = omega arith in subst P e start
along xs P k start step (suc j) low high =
    elim (cases_eq k (suc j)) as (λ _. P (suc j)) [
      | inl e ↦ subst P e start
      | inr ne ↦ let there = at_some xs j (omega arith) in step j there.0 (omega arith) there.1 (along xs P k start step j (omega arith) (omega arith))
    ]
