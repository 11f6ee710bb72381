-- Lists in strict order.
use Rattle.std.specs.Prelude.{List, [], ◌∷◌, ⊤}
use Rattle.m3_model.specs.Members.{IsIn}

-- each element stands before all later ones
abbrev pub Ascends : {X : Type 0} → (X → X → Type 0) → List X → Type 0
Ascends Before [] = ⊤
Ascends Before (x ∷ xs) = ((y : _) → IsIn xs y → Before x y) × Ascends Before xs
