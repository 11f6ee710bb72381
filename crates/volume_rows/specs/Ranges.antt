-- Rows of a volume from an identifier on.
use Rattle.std.specs.Prelude.{◌≡◌, ℕ, false, List, ◌++◌, Option}
use Rattle.fileset_read.specs.m3_model.declared.point.Series.{Series}
use Rattle.fileset_lookup.specs.Extents.{AreBelow, AreBeyond, AreEnough, AreNeeded, NoneIsBelow, NoneIsBeyond}
use Rattle.volume_rows.specs.declared.ranges.RowRange.{RowRange}

-- they are those of the volume's rows that begin with the first one not below the identifier, and are enough, and none is too many
pub record AreRowsFrom (id : List ℕ) (last : Option (List ℕ)) (most : ℕ) (rows : List Series) (found : RowRange) : Type 0 where
  pub before : List Series
  pub later : List Series
  pub split : rows ≡ before ++ (found.rows ++ later)
  pub below : AreBelow id before
  pub reached : NoneIsBelow id found.rows
  pub enough : AreEnough last most found.rows later found.whole
  pub within : NoneIsBeyond last found.rows
  pub needed : AreNeeded most found.rows
  pub part : found.whole ≡ false → ¬ AreBeyond last later
