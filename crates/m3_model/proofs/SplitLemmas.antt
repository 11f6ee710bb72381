-- Lists that are put together from parts.
use Rattle.std.proofs.Common.{◌≡◌, List, [], ◌∷◌, ◌++◌, refl, sym, ap, inl, inr}
use Rattle.std.specs.Prelude.{◌⊎◌}

pub not_empty : {X : Type 0} (ys : List X) (y : X) (zs : List X) → [] ≡ ys ++ y ∷ zs → ⊥
not_empty [] y zs e = cc
not_empty (w ∷ ys) y zs e = cc

-- where an element of a list that was pushed to stands
abbrev pub Splits : {X : Type 0} → List X → X → List X → X → List X → Type 0
Splits {X} xs x ys y zs = ((ys ≡ xs) × (y ≡ x)) ⊎ ((rest : List X) × (xs ≡ ys ++ y ∷ rest))

pub split_push : {X : Type 0} (xs : List X) (x : X) (ys : List X) (y : X) (zs : List X) → xs ++ x ∷ [] ≡ ys ++ y ∷ zs → Splits xs x ys y zs
split_push [] x [] y zs e = let same : x ≡ y = cc in inl (refl, sym same)
split_push [] x (w ∷ ys) y zs e = let rest : [] ≡ ys ++ y ∷ zs = cc in absurd (not_empty ys y zs rest)
split_push (v ∷ xs) x [] y zs e = let same : v ≡ y = cc in inr (xs, ap (λ z. z ∷ xs) same)
split_push (v ∷ xs) x (w ∷ ys) y zs e =
    let same : v ≡ w = cc in
    let rest : xs ++ x ∷ [] ≡ ys ++ y ∷ zs = cc in
    elim (split_push xs x ys y zs rest) as (λ _. ((w ∷ ys ≡ v ∷ xs) × (y ≡ x)) ⊎ ((more : List _) × (v ∷ xs ≡ w ∷ (ys ++ y ∷ more)))) [
      | inl last ↦ inl ((λ i. sym same i ∷ last.0 i), last.1)
      | inr before ↦ inr (before.0, λ i. same i ∷ before.1 i)
    ]
