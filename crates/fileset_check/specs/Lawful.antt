-- Series that a volume may have, told one after another.
use Rattle.std.specs.Prelude.{⊤, ℕ, ℤ, ◌+◌, ◌*◌, ◌<◌, ◌≤◌, ◌^◌, List, [], ◌∷◌, length, IsUtf8, FitsSigned}
use Rattle.std.specs.Int.{w64}
use Rattle.fileset_read.specs.m3_model.Tags.{IsBelow}
use Rattle.fileset_read.specs.m3_model.declared.limits.TheConstants.{MOST_ID_BYTES}
use Rattle.fileset_read.specs.m3_model.declared.point.Series.{Series}

-- the times ascend, from this one on and below the end, and the values fit their field
abbrev pub AreTimes : ℕ → ℕ → List (ℕ × ℤ) → Type 0
AreTimes least end [] = ⊤
AreTimes least end (x ∷ xs) = (least ≤ x.0) × (x.0 < end) × FitsSigned w64 x.1 × AreTimes (x.0 + 1) end xs

-- the series may stand in a block from this start on and below this end
pub record IsRowIn (start end : ℕ) (s : Series) : Type 0 where
  pub some : 1 ≤ length s.id
  pub most : length s.id ≤ MOST_ID_BYTES
  pub utf8 : IsUtf8 s.id
  pub counted : length s.points < 2 ^ 28
  pub long : 6 + length s.id + 16 * length s.points < 2 ^ 32
  pub times : AreTimes start end s.points

-- each of the series may stand there, and their identifiers ascend, above this one
abbrev pub AreRows : ℕ → ℕ → List ℕ → List Series → Type 0
AreRows start end last [] = ⊤
AreRows start end last (s ∷ rows) = IsBelow last s.id × IsRowIn start end s × AreRows start end s.id rows
