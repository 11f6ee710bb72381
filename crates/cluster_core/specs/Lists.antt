-- Positions in a list, and lists without repetition.
use Rattle.std.specs.Prelude.{◌≡◌, ◌≢◌, ◌⊎◌, ℕ, List, [], ◌∷◌, length, take, Some, slice_get}
use Rattle.m3_model.specs.Ascends.{Ascends}

-- the element stands at this position
abbrev pub At : {X : Type 0} → List X → ℕ → X → Type 0
At xs i x = slice_get xs i ≡ Some x

-- an element is of this kind, and all those after it are as wanted
abbrev pub AfterSome : {X : Type 0} → (X → Type 0) → (List X → Type 0) → List X → Type 0
AfterSome Kind Wanted [] = ⊥
AfterSome Kind Wanted (x ∷ xs) = (Kind x × Wanted xs) ⊎ AfterSome Kind Wanted xs

-- the second list begins with the first
abbrev pub IsPrefix : {X : Type 0} → List X → List X → Type 0
IsPrefix xs ys = take (length xs) ys ≡ xs

-- no number stands twice
abbrev pub IsDistinct : List ℕ → Type 0
IsDistinct ns = Ascends ◌≢◌ ns
