-- Ascending lists of ordinals.
use Rattle.std.specs.Prelude.{ℕ, List, [], ◌∷◌, Bool, false, ◌||◌, not, nat_eq, nat_lt, if◌then◌else◌}
use Rattle.std.specs.List.{filter}

-- whether x is an element of the list
abbrev pub is_in : List ℕ → ℕ → Bool
is_in [] x = false
is_in (y ∷ ys) x = nat_eq y x || is_in ys x

-- whether x is the first element of the list
abbrev pub is_first : List ℕ → ℕ → Bool
is_first [] x = false
is_first (y ∷ ys) x = nat_eq y x

-- the list from the first element on that isn't below x
abbrev pub not_below : ℕ → List ℕ → List ℕ
not_below x [] = []
not_below x (y ∷ ys) = if nat_lt y x then not_below x ys else y ∷ ys

-- whether the answer is the wanted one
abbrev pub is_wanted : Bool → Bool → Bool
is_wanted wanted answer = if wanted then answer else not answer

-- the elements of xs that are in ys, or those that aren't
abbrev pub sifted : Bool → List ℕ → List ℕ → List ℕ
sifted wanted xs ys = filter (λ x. is_wanted wanted (is_in ys x)) xs
