-- Lists in order, and what is left of a list.
use Rattle.std.proofs.Common.{◌≡◌, ◌↔◌, ℕ, zero, suc, ◌+◌, ◌-◌, List, [], ◌∷◌, drop, slice_get, Some, sym, ap, subst, All, add-one}
use Rattle.m3_model.specs.Ascends.{Ascends}
use Rattle.m3_model.proofs.Lists.{All-from_each}
use Rattle.placement_core.proofs.ListLemmas.{each-from_All}

pub drop_here : {X : Type 0} (xs : List X) (i : ℕ) (x : X) → slice_get xs i ≡ Some x → drop i xs ≡ x ∷ drop (suc i) xs
drop_here [] i x e = cc
drop_here (y ∷ ys) zero x e = let same : y ≡ x = cc in ap (λ z. z ∷ ys) same
drop_here (y ∷ ys) (suc i) x e = drop_here ys i x e

pub ascends_next : {X : Type 0} (R : X → X → Type 0) (xs : List X) (i : ℕ) (x : X) → slice_get xs i ≡ Some x → Ascends R (drop i xs) ↔ (All (R x) (drop (i + 1) xs) × Ascends R (drop (i + 1) xs))
ascends_next R xs i x at =
    let here = drop_here xs i x at in
    let next : drop (i + 1) xs ≡ drop (suc i) xs = ap (λ n. drop n xs) (add-one i) in (
      λ h. let a = subst (Ascends R) here h in (subst (All (R x)) (sym next) (All-from_each (R x) (drop (suc i) xs) a.0), subst (Ascends R) (sym next) a.1),
      λ h. subst (Ascends R) (sym here) (each-from_All (R x) (drop (suc i) xs) (subst (All (R x)) next h.0), subst (Ascends R) next h.1),
    )
