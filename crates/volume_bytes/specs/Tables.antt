-- What rows give of a volume that follows them in their order.
use Rattle.std.specs.Prelude.{◌≡◌, List}
use Rattle.wire_bytes.specs.m3_model.declared.point.Series.{Series}
use Rattle.wire_bytes.specs.Volumes.{count_of, data_bytes, index_bytes, summaries_bytes}
use Rattle.volume_bytes.specs.declared.tables.Tables.{Tables}

-- data, index, summaries and count of points are those of the rows
pub record AreTables (rows : List Series) (t : Tables) : Type 0 where
  pub body : t.data ≡ data_bytes rows
  pub index : t.index ≡ index_bytes 1 rows
  pub summaries : t.summaries ≡ summaries_bytes 1 rows
  pub points : t.points ≡ count_of rows
