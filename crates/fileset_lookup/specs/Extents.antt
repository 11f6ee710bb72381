-- The rows from one identifier to another, as the entries of an index tell where their records stand.
use Rattle.std.specs.Prelude.{◌≡◌, ℕ, ◌<◌, ◌≤◌, Bool, true, false, List, [], ◌∷◌, ◌++◌, length, drop, Option, Some, None}
use Rattle.wire_bytes.specs.m3_model.Members.{IsIn}
use Rattle.wire_bytes.specs.m3_model.Tags.{IsBelow}
use Rattle.wire_bytes.specs.m3_model.declared.point.Series.{Series}
use Rattle.wire_bytes.specs.Volumes.{count_of, data_bytes, index_from}
use Rattle.fileset_lookup.specs.declared.extents.Extent.{Extent}

-- each of the rows is below the identifier
abbrev pub AreBelow : List ℕ → List Series → Type 0
AreBelow id rows = (s : Series) → IsIn rows s → IsBelow s.id id

-- none of them is
abbrev pub NoneIsBelow : List ℕ → List Series → Type 0
NoneIsBelow id rows = (s : Series) → IsIn rows s → ¬ IsBelow s.id id

-- the identifier is above the last one, where there is one
abbrev pub IsBeyond : Option (List ℕ) → List ℕ → Type 0
IsBeyond None id = ⊥
IsBeyond (Some last) id = IsBelow last id

-- each of the rows is beyond the last identifier; where there is none, there are no rows
abbrev pub AreBeyond : Option (List ℕ) → List Series → Type 0
AreBeyond last rows = (s : Series) → IsIn rows s → IsBeyond last s.id

-- some rows are enough: they are whole, where those behind are beyond the last identifier; else they have so many points, not counting those of the first of them
abbrev pub AreEnough : Option (List ℕ) → ℕ → List Series → List Series → Bool → Type 0
AreEnough last most some later true = AreBeyond last later
AreEnough last most some later false = most ≤ count_of (drop 1 some)

-- none of the rows is beyond the last identifier
abbrev pub NoneIsBeyond : Option (List ℕ) → List Series → Type 0
NoneIsBeyond last rows = (s : Series) → IsIn rows s → ¬ IsBeyond last s.id

-- without the last of them the rows would have too few points
abbrev pub AreNeeded : ℕ → List Series → Type 0
AreNeeded most rows = (front : List Series) (one : Series) → rows ≡ front ++ one ∷ [] → count_of (drop 1 front) < most

-- the records of the first of the rows stand there in the data, behind those of the rows before, and these are enough, and none is too many
pub record AreTaken (last : Option (List ℕ)) (most : ℕ) (before rows : List Series) (extent : Extent) : Type 0 where
  pub some : List Series
  pub later : List Series
  pub split : rows ≡ some ++ later
  pub at : 1 ≤ length some → extent.at ≡ length (data_bytes before)
  pub len : extent.len ≡ length (data_bytes some)
  pub enough : AreEnough last most some later extent.whole
  pub within : NoneIsBeyond last some
  pub needed : AreNeeded most some
  pub part : extent.whole ≡ false → ¬ AreBeyond last later

-- the same of the rows from the identifier on
pub record IsExtent (id : List ℕ) (last : Option (List ℕ)) (most : ℕ) (before rows : List Series) (extent : Extent) : Type 0 where
  pub early : List Series
  pub some : List Series
  pub later : List Series
  pub split : rows ≡ early ++ (some ++ later)
  pub below : AreBelow id early
  pub reached : NoneIsBelow id some
  pub at : 1 ≤ length some → extent.at ≡ length (data_bytes (before ++ early))
  pub len : extent.len ≡ length (data_bytes some)
  pub enough : AreEnough last most some later extent.whole
  pub within : NoneIsBeyond last some
  pub needed : AreNeeded most some
  pub part : extent.whole ≡ false → ¬ AreBeyond last later

-- the entries that are left are those of the rows from the first one on that isn't below the identifier
pub record AreSkipped (id : List ℕ) (before rows : List Series) (rest : List ℕ) : Type 0 where
  pub early : List Series
  pub others : List Series
  pub split : rows ≡ early ++ others
  pub below : AreBelow id early
  pub reached : NoneIsBelow id others
  pub stands : rest ≡ index_from 1 (length (data_bytes (before ++ early))) others
