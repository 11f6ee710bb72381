-- What a loop over a list knows of the elements so far.
use Rattle.std.proofs.Common.{◌≡◌, ℕ, zero, suc, ◌+◌, ◌<◌, ◌≤◌, List, [], ◌∷◌, get_or, length, sym, ap, ◌∙◌, subst, inl, inr, arith, All}
use Rattle.std.proofs.lemmas.Bool.{cases_eq}
use Rattle.std.proofs.lemmas.Option.{same_Some}
use Rattle.cluster_core.specs.Lists.{At}
use Rattle.cluster_core.proofs.ListLemmas.{at_within}

pub at_get : {X : Type 0} (xs : List X) (i : ℕ) (x d : X) → At xs i x → get_or xs i d ≡ x
at_get [] i x d e = cc
at_get (y ∷ ys) zero x d e = same_Some y x e
at_get (y ∷ ys) (suc i) x d e = at_get ys i x d e

-- the first elements are of the kind
abbrev pub AllBelow : {X : Type 0} → (X → Type 0) → List X → ℕ → Type 0
AllBelow P xs i = (k : ℕ) (d : _) → k < i → P (get_or xs k d)

pub all_more : {X : Type 0} (P : X → Type 0) (xs : List X) (i : ℕ) (x : X) → At xs i x → AllBelow P xs i → P x → AllBelow P xs (i + 1)
all_more P xs i x at was here k d lt = elim (cases_eq k i) as (λ _. P (get_or xs k d)) [
  | inl e ↦ subst P (sym (ap (λ n. get_or xs n d) e ∙ at_get xs i x d at)) here
  | inr ne ↦ was k d (omega (arith, lt, ne))
]

pub all_done : {X : Type 0} (P : X → Type 0) (xs : List X) (i : ℕ) → length xs ≤ i → AllBelow P xs i → All P xs
all_done P xs i le was k d lt = was k d (omega (arith, lt, le))

pub not_all : {X : Type 0} (P : X → Type 0) (xs : List X) (i : ℕ) (x : X) → At xs i x → ¬ P x → ¬ All P xs
not_all P xs i x at isnt all = isnt (subst P (at_get xs i x x at) (all i x (at_within xs i x at)))
