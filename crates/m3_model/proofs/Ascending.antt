-- Lists of which each element is before each later one: joined, filtered, and under another relation.
use Rattle.std.proofs.Common.{◌≡◌, List, [], ◌∷◌, ◌++◌, filter, Bool, true, false, cond, subst, refl, inl, inr}
use Rattle.std.specs.Prelude.{◌⊎◌}
use Rattle.m3_model.specs.Members.{IsIn}
use Rattle.m3_model.specs.Ascends.{Ascends}
use Rattle.m3_model.proofs.MemberLemmas.{IsIn-append_cases}
use Rattle.m3_model.proofs.Lists.{IsIn-filter}

pub Ascends-weaken : {X : Type 0} (R S : X → X → Type 0) (xs : List X) → ((x y : X) → R x y → S x y) → Ascends R xs → Ascends S xs
Ascends-weaken R S [] f h = tt
Ascends-weaken R S (x ∷ xs) f h = (λ y m. f x y (h.0 y m), Ascends-weaken R S xs f h.1)

pub Ascends-append : {X : Type 0} (R : X → X → Type 0) (xs ys : List X) → Ascends R xs → Ascends R ys → ((x y : X) → IsIn xs x → IsIn ys y → R x y) → Ascends R (xs ++ ys)
Ascends-append R [] ys of_xs of_ys across = of_ys
Ascends-append R (x ∷ xs) ys of_xs of_ys across = (
  λ y m. elim (IsIn-append_cases xs ys y m) as (λ _. R x y) [ inl before ↦ of_xs.0 y before | inr behind ↦ across x y (inl refl) behind ],
  Ascends-append R xs ys of_xs.1 of_ys (λ a b m n. across a b (inr m) n),
)

pub Ascends-push : {X : Type 0} (R : X → X → Type 0) (xs : List X) (y : X) → Ascends R xs → ((x : X) → IsIn xs x → R x y) → Ascends R (xs ++ y ∷ [])
Ascends-push R xs y h each = Ascends-append R xs (y ∷ []) h (λ z m. absurd m, tt) (λ a b m n. elim n as (λ _. R a b) [ inl e ↦ subst (R a) e (each a m) | inr none ↦ absurd none ])

pub Ascends-filter : {X : Type 0} (R : X → X → Type 0) (p : X → Bool) (xs : List X) → Ascends R xs → Ascends R (filter p xs)
Ascends-filter R p [] h = tt
Ascends-filter R p (x ∷ xs) h = by (p x) (Ascends-filter R p xs h.1)
  where
    by : (b : Bool) → Ascends R (filter p xs) → Ascends R (cond b (x ∷ filter p xs) (filter p xs))
    by true rest = ((λ y m. h.0 y (IsIn-filter p xs y m)), rest)
    by false rest = rest
