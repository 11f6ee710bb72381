-- What is left of a list, and what is looked for in it one element after the other.
use Rattle.std.proofs.Common.{◌≡◌, ◌↔◌, ℕ, suc, ◌+◌, ◌-◌, ◌≤◌, List, take, drop, length, sym, ap, ◌∙◌, subst, inl, inr, add-one}
use Rattle.std.proofs.lemmas.List.{take_rest, drop_all}
use Rattle.cluster_core.specs.Lists.{At, AfterSome}
use Rattle.placement_core.proofs.AscendLemmas.{drop_here}

-- an element that is not of the kind, or not followed as wanted, can be left out
after_suc : {X : Type 0} (Kind : X → Type 0) (Wanted : List X → Type 0) (xs : List X) (i : ℕ) (x : X) → At xs i x → ¬ (Kind x × Wanted (drop (suc i) xs)) → AfterSome Kind Wanted (drop i xs) ↔ AfterSome Kind Wanted (drop (suc i) xs)
after_suc Kind Wanted xs i x at isnt =
    let here = drop_here xs i x at in (
      λ h. elim (subst (AfterSome Kind Wanted) here h) as (λ _. AfterSome Kind Wanted (drop (suc i) xs)) [ inl is ↦ absurd (isnt is) | inr later ↦ later ],
      λ h. subst (AfterSome Kind Wanted) (sym here) (inr h),
    )

-- the rest as a slice of a loop has it
abbrev rest_of : {X : Type 0} → List X → ℕ → List X
rest_of xs i = take (length xs - (i + 1)) (drop (i + 1) xs)

rest_next : {X : Type 0} (xs : List X) (i : ℕ) → rest_of xs i ≡ drop (suc i) xs
rest_next xs i = take_rest xs (i + 1) ∙ ap (λ n. drop n xs) (add-one i)

pub after_next : {X : Type 0} (Kind : X → Type 0) (Wanted : List X → Type 0) (xs : List X) (i : ℕ) (x : X) → At xs i x → ¬ (Kind x × Wanted (take (length xs - (i + 1)) (drop (i + 1) xs)))
    → (AfterSome Kind Wanted xs ↔ AfterSome Kind Wanted (drop i xs)) → AfterSome Kind Wanted xs ↔ AfterSome Kind Wanted (drop (i + 1) xs)
after_next Kind Wanted xs i x at isnt was =
    let step = after_suc Kind Wanted xs i x at (λ h. isnt (h.0, subst Wanted (sym (rest_next xs i)) h.1)) in
    let next : drop (i + 1) xs ≡ drop (suc i) xs = ap (λ n. drop n xs) (add-one i) in
    (λ h. subst (AfterSome Kind Wanted) (sym next) (step.0 (was.0 h)), λ h. was.1 (step.1 (subst (AfterSome Kind Wanted) next h)))

pub after_here : {X : Type 0} (Kind : X → Type 0) (Wanted : List X → Type 0) (xs : List X) (i : ℕ) (x : X) → At xs i x → Kind x → Wanted (take (length xs - (i + 1)) (drop (i + 1) xs))
    → (AfterSome Kind Wanted xs ↔ AfterSome Kind Wanted (drop i xs)) → AfterSome Kind Wanted xs
after_here Kind Wanted xs i x at kind wanted was = was.1 (subst (AfterSome Kind Wanted) (sym (drop_here xs i x at)) (inl (kind, subst Wanted (rest_next xs i) wanted)))

pub after_none : {X : Type 0} (Kind : X → Type 0) (Wanted : List X → Type 0) (xs : List X) (i : ℕ) → length xs ≤ i → (AfterSome Kind Wanted xs ↔ AfterSome Kind Wanted (drop i xs)) → ¬ AfterSome Kind Wanted xs
after_none Kind Wanted xs i le was h = subst (AfterSome Kind Wanted) (drop_all i xs le) (was.0 h)
