-- Bounds of times in a tree, and those of the groups of each namespace.
use Rattle.std.specs.Prelude.{◌≡◌, ℕ, ◌+◌, ◌/◌, ◌^◌, ◌<◌, ◌≤◌, List, [], length, get_or}

-- each node but those under this one is no less than the node above it
abbrev pub IsTreeBut : ℕ → List ℕ → Type 0
IsTreeBut node nodes = (j : ℕ) → 2 ≤ j → j < length nodes → (j / 2 ≡ node → ⊥) → get_or nodes (j / 2) 0 ≤ get_or nodes j 0

-- each node is no less than the node above it
abbrev pub IsTree : List ℕ → Type 0
IsTree nodes = (j : ℕ) → 2 ≤ j → j < length nodes → get_or nodes (j / 2) 0 ≤ get_or nodes j 0

-- the bound at a position: the positions are the second half of the nodes, and beyond them no time has 64 bits
abbrev pub bound_in : List ℕ → ℕ → ℕ
bound_in nodes position = get_or nodes (length nodes / 2 + position) (2 ^ 64)

-- the bound of a group of a namespace
abbrev pub bound_at : List (List ℕ) → ℕ → ℕ → ℕ
bound_at spaces ns group = bound_in (get_or spaces ns []) group

-- there is a bound at the group of the namespace
abbrev pub HasGroup : List (List ℕ) → ℕ → ℕ → Type 0
HasGroup spaces ns group = length (get_or spaces ns []) / 2 + group < length (get_or spaces ns [])
