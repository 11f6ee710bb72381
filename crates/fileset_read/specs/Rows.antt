-- What is read of the data of a volume.
use Rattle.std.specs.Prelude.{◌≡◌, ⊤, ℕ, ℤ, ◌+◌, ◌*◌, ◌<◌, ◌≤◌, ◌^◌, List, ◌++◌, length, take, drop, flat_map, Option, Some, None, Result, Ok, Err, IsUtf8, FitsSigned}
use Rattle.std.specs.Int.{w64}
use Rattle.shard_files.specs.m3_model.Members.{IsIn}
use Rattle.shard_files.specs.m3_model.declared.point.Series.{Series}
use Rattle.shard_files.specs.wire_bytes.Volumes.{pair_bytes}
use Rattle.shard_files.specs.wire_bytes.declared.wire_err.WireErr.{WireErr}
use Rattle.fileset_read.specs.declared.row_at.RowAt.{RowAt}
use Rattle.fileset_read.specs.declared.row_err.RowErr.{RowErr}
use Rattle.fileset_read.specs.declared.row_err.RowErr.TheVariants as errors

-- a time and a value that fit their fields
pub record IsPair (x : ℕ × ℤ) : Type 0 where
  pub time : x.0 < 2 ^ 64
  pub value : FitsSigned w64 x.1

abbrev pub ArePairs : List (ℕ × ℤ) → Type 0
ArePairs xs = (x : ℕ × ℤ) → IsIn xs x → IsPair x

-- an identifier, times and values that fit their fields
pub record IsSpelled (s : Series) : Type 0 where
  pub id : length s.id < 2 ^ 16
  pub utf8 : IsUtf8 s.id
  pub counted : length s.points < 2 ^ 32
  pub pairs : ArePairs s.points

abbrev pub AreSpelled : List Series → Type 0
AreSpelled rows = (s : Series) → IsIn rows s → IsSpelled s

-- the parts of the record lie in the bytes, one after another
pub record AreInside (bytes : List ℕ) (r : RowAt) : Type 0 where
  pub id : r.id_from ≤ r.id_to
  pub from : r.from ≡ r.id_to + 4
  pub next : r.next ≡ r.from + 16 * r.count
  pub within : r.next ≤ length bytes

-- the record is that of the series, with the rest behind it
pub record RowStands (s : Series) (rest bytes : List ℕ) (r : RowAt) : Type 0 where
  pub id : take (length s.id) (drop r.id_from bytes) ≡ s.id
  pub id_to : r.id_to ≡ r.id_from + length s.id
  pub count : r.count ≡ length s.points
  pub points : drop r.from bytes ≡ flat_map pair_bytes s.points ++ rest
  pub next : drop r.next bytes ≡ rest

-- that record is found
abbrev pub FindsRow : Result RowAt WireErr → Series → List ℕ → List ℕ → Type 0
FindsRow (Ok r) s rest bytes = RowStands s rest bytes r
FindsRow (Err e) s rest bytes = ⊥

-- such a value is read, or memory is wanted
abbrev pub Gives : {X : Type 0} → Result X RowErr → (X → Type 0) → Type 0
Gives (Ok x) P = P x
Gives (Err errors.Memory) P = ⊤
Gives (Err errors.Form) P = ⊥

-- the series of this identifier, and none where none of these has it
abbrev pub IsSeriesOf : List ℕ → List Series → Option Series → Type 0
IsSeriesOf id rows (Some s) = (s.id ≡ id) × IsIn rows s
IsSeriesOf id rows None = (s : Series) → IsIn rows s → ¬ (s.id ≡ id)
