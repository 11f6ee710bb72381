-- What is kept of a volume for look-ups.
use Rattle.std.specs.Prelude.{◌≡◌, List, length, Option, IfSome}
use Rattle.m3_model.specs.declared.point.Series.{Series}
use Rattle.volume_points.specs.wire_bytes.Volumes.{bloom_bytes, index_bytes, summaries_bytes}
use Rattle.volume_points.specs.volume_rows.declared.seeker.Seeker.{Seeker}

-- it has the bloom filter and the summaries of a volume of these rows, and the size of its index
abbrev pub IsOfRows : List Series → Seeker → Type 0
IsOfRows rows k = (k.bloom ≡ bloom_bytes rows) × ((k.summaries ≡ summaries_bytes 1 rows) × (k.index_len ≡ length (index_bytes 1 rows)))

-- what is kept, if anything is, is of these rows
abbrev pub HasSeeker : List Series → Option Seeker → Type 0
HasSeeker rows kept = IfSome kept (IsOfRows rows)
