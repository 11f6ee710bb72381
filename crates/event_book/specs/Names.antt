-- Names of seats.
use Rattle.std.specs.Prelude.{◌≡◌, ℕ, ◌≤◌, Bool, List, ◌∷◌, ◌++◌, nat_eq}
use lib.Pointwise.{pointwise}

-- the first seat's name is empty; that of a seat which was split off is its parent's, and how often the parent had been split before
abbrev pub Name : Type 0
Name = List ℕ

-- whether two names are the same
abbrev pub same_name : Name → Name → Bool
same_name n m = pointwise nat_eq n m

-- a name that a seat of this name which was split so often may still give, or one that a seat below it may
abbrev pub MayGiveName : Name → ℕ → Name → Type 0
MayGiveName name splits m = (j : ℕ) × (rest : Name) × (splits ≤ j) × (m ≡ name ++ j ∷ rest)
