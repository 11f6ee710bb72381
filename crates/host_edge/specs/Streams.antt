-- What the standard streams are seen as: the bytes that passed, and counts.
use Rattle.std.specs.Prelude.{ℕ, List, Bool}

-- the bytes that reads gave, whether the last one found none, and how many calls failed
pub record SourceState : Type 0 where
  pub gave : List ℕ
  pub ended : Bool
  pub faults : ℕ

-- the bytes that writes took, how many calls failed, and how many took nothing of a piece that isn't empty
pub record SinkState : Type 0 where
  pub took : List ℕ
  pub faults : ℕ
  pub stalls : ℕ
