-- Where the series of an identifier stands in the data of a volume, as its entry in the index tells.
use Rattle.std.specs.Prelude.{◌≡◌, ℕ, List, ◌∷◌, ◌++◌, length, Option, Some, None}
use Rattle.wire_bytes.specs.m3_model.Members.{IsIn}
use Rattle.wire_bytes.specs.m3_model.declared.point.Series.{Series}
use Rattle.wire_bytes.specs.Volumes.{row_bytes, data_bytes}
use Rattle.fileset_lookup.specs.declared.entries.Spot.{Spot}

-- one of the rows, behind those before them, has the identifier and stands there
pub record IsSpot (id : List ℕ) (before rows : List Series) (spot : Spot) : Type 0 where
  pub front : List Series
  pub one : Series
  pub back : List Series
  pub split : rows ≡ front ++ one ∷ back
  pub named : one.id ≡ id
  pub at : spot.at ≡ length (data_bytes (before ++ front))
  pub len : spot.len ≡ length (row_bytes one)

-- there is such a row, or none of the rows has the identifier
abbrev pub FindsSpot : List ℕ → List Series → List Series → Option Spot → Type 0
FindsSpot id before rows (Some spot) = IsSpot id before rows spot
FindsSpot id before rows None = (s : Series) → IsIn rows s → ¬ (s.id ≡ id)
