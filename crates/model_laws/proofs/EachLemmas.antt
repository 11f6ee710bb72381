-- Facts of each element of a list that is written out.
use Rattle.std.proofs.Common.{◌≡◌, ◌≢◌, ◌∙◌, sym, true, false, nat_eq, ℕ, List, [], ◌∷◌, refl, subst, ap, inl, inr}
use Rattle.std.specs.Cmp.Lexicographic.{pointwise}
use Rattle.m3_model.specs.Ascends.{Ascends}
use Rattle.m3_model.specs.Members.{IsIn}

infixr 10 ◌also◌
-- one fact and the next
pub ◌also◌ : {A B : Type 0} → A → B → A × B
a also b = (a, b)

-- a fact of each element
abbrev pub Each : {X : Type 0} → (X → Type 0) → List X → Type 0
Each P [] = Unit {0}
Each P (x ∷ xs) = P x × Each P xs

pub each_in : {X : Type 0} (P : X → Type 0) (xs : List X) → Each P xs → (x : X) → IsIn xs x → P x
each_in P [] each x h = absurd h
each_in P (y ∷ ys) each x h = elim h as (λ _. P x) [ inl e ↦ subst P e each.0 | inr r ↦ each_in P ys each.1 x r ]

-- what is unlike each element is none of them
pub not_in_each : {X : Type 0} (xs : List X) (x : X) → Each (λ y. y ≢ x) xs → ¬ IsIn xs x
not_in_each xs x each h = each_in (λ y. y ≢ x) xs each x h refl

-- a fact of each element and each later one
abbrev pub EachPair : {X : Type 0} → (X → X → Type 0) → List X → Type 0
EachPair R [] = Unit {0}
EachPair R (x ∷ xs) = Each (R x) xs × EachPair R xs

pub ascends_by : {X : Type 0} (R : X → X → Type 0) (xs : List X) → EachPair R xs → Ascends R xs
ascends_by R [] pairs = tt
ascends_by R (x ∷ xs) pairs = (each_in (R x) xs pairs.0, ascends_by R xs pairs.1)

-- two texts that a test tells apart
pub texts_differ : (a b : List ℕ) → pointwise nat_eq a a ≡ true → pointwise nat_eq a b ≡ false → a ≢ b
texts_differ a b same other e =
    let clash : true ≡ false = sym same ∙ ap (pointwise nat_eq a) e ∙ other in
    cc
