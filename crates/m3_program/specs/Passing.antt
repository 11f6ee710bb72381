-- What passes between a run and its streams.
use Rattle.std.specs.Prelude.{◌≡◌, ℕ, List, [], ◌++◌, Option, None, Some}
use Rattle.std.specs.Io.KnownBytes.{Appends, Consumes}

-- a source gave these bytes; where it tells what is left, they were the front of that
abbrev pub Gives : Option (List ℕ) → List ℕ → List ℕ → Option (List ℕ) → List ℕ → Type 0
Gives left gave piece left2 gave2 = Consumes left left2 piece × (gave2 ≡ gave ++ piece)

-- what a source tells is left, and nothing where it doesn't tell
abbrev pub left_in : Option (List ℕ) → List ℕ
left_in None = []
left_in (Some left) = left

-- what a sink shows: what it tells was written, and what its writes took
pub record Outflow : Type 0 where
  pub written : Option (List ℕ)
  pub took : List ℕ

abbrev pub outflow : Option (List ℕ) → List ℕ → Outflow
outflow written took = record { written = written; took = took }

-- a sink took these bytes; where it tells what was written, they came behind that
pub record Takes (old new : Outflow) (piece : List ℕ) : Type 0 where
  pub written : Appends old.written new.written piece
  pub took : new.took ≡ old.took ++ piece
