-- Members of lists, by cases and by positions.
use Rattle.std.proofs.Common.{◌≡◌, ℕ, ◌<◌, List, [], ◌∷◌, suc, zero, length, get_or, Contains, subst, inl, inr, arith}
use Rattle.m3_model.specs.Members.{IsIn}
use Rattle.m3_model.proofs.Lists.{IsIn-get_or}

pub IsIn-from_Contains : {X : Type 0} (xs : List X) (x : X) → Contains xs x → IsIn xs x
IsIn-from_Contains xs x h = subst (IsIn xs) h.2 (IsIn-get_or xs h.0 x h.1)

pub Contains-from_IsIn : {X : Type 0} (xs : List X) (x : X) → IsIn xs x → Contains xs x
Contains-from_IsIn [] x h = absurd h
Contains-from_IsIn (y ∷ ys) x h =
    elim h as (λ _. (k : ℕ) × (k < length (y ∷ ys)) × (get_or (y ∷ ys) k x ≡ x)) [
      | inl e ↦ (zero, omega arith, e)
      | inr r ↦ let found = Contains-from_IsIn ys x r in (suc found.0, omega (arith, found.1), found.2)
    ]
