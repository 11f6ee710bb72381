-- Where a look-up reads: a piece of the index, and then a piece of the data.
use Rattle.std.specs.Prelude.{◌≡◌, ◌≤◌, ℕ, false, List, ◌∷◌, ◌++◌, length, Option, Some, None}
use Rattle.fileset_read.specs.m3_model.Members.{IsIn}
use Rattle.fileset_read.specs.m3_model.declared.point.Series.{Series}
use Rattle.fileset_read.specs.m3_outside.Files.{Files}
use Rattle.fileset_read.specs.wire_bytes.Volumes.{VolumeHead, row_bytes, data_bytes, index_bytes}
use Rattle.fileset_read.specs.shard_files.Parts.{VolumeHolds}
use Rattle.fileset_lookup.specs.Extents.{AreBelow, AreBeyond, AreEnough, AreNeeded, NoneIsBelow, NoneIsBeyond}
use Rattle.fileset_lookup.specs.declared.entries.Spot.{Spot}
use Rattle.fileset_lookup.specs.declared.extents.Extent.{Extent}
use Rattle.volume_rows.specs.declared.entries.Stretch.{Stretch}

-- so it is with the rows of the volume that is there
abbrev pub OfVolume : VolumeHead → (List Series → Type 0) → Files → Type 0
OfVolume v P files = (rows : List Series) → VolumeHolds v rows files → P rows

abbrev pub HaveNot : List ℕ → List Series → Type 0
HaveNot id rows = (s : Series) → IsIn rows s → ¬ (s.id ≡ id)

-- the entries of some of the rows stand there in the index, and of no others may one be that of the identifier
pub record HasEntries (format : ℕ) (id : List ℕ) (rows : List Series) (stretch : Stretch) : Type 0 where
  pub before : List Series
  pub run : List Series
  pub later : List Series
  pub split : rows ≡ before ++ (run ++ later)
  pub at : stretch.at ≡ length (index_bytes format before)
  pub len : stretch.len ≡ length (index_bytes format run)
  pub all : (s : Series) → IsIn rows s → s.id ≡ id → IsIn run s

abbrev pub FindsEntries : ℕ → List ℕ → List Series → Option Stretch → Type 0
FindsEntries format id rows (Some stretch) = HasEntries format id rows stretch
FindsEntries format id rows None = HaveNot id rows

-- the record of the identifier's series stands there in the data
pub record HasRecord (id : List ℕ) (rows : List Series) (spot : Spot) : Type 0 where
  pub before : List Series
  pub one : Series
  pub later : List Series
  pub split : rows ≡ before ++ one ∷ later
  pub named : one.id ≡ id
  pub at : spot.at ≡ length (data_bytes before)
  pub len : spot.len ≡ length (row_bytes one)

abbrev pub FindsRecord : List ℕ → List Series → Option Spot → Type 0
FindsRecord id rows (Some spot) = HasRecord id rows spot
FindsRecord id rows None = HaveNot id rows

-- the entries of some of the rows stand there in the index: those before them are below the identifier, and those behind are beyond the last one
pub record HasEntriesFrom (format : ℕ) (id : List ℕ) (last : Option (List ℕ)) (rows : List Series) (stretch : Stretch) : Type 0 where
  pub before : List Series
  pub run : List Series
  pub later : List Series
  pub split : rows ≡ before ++ (run ++ later)
  pub at : stretch.at ≡ length (index_bytes format before)
  pub len : stretch.len ≡ length (index_bytes format run)
  pub below : AreBelow id before
  pub beyond : AreBeyond last later

-- the records of the rows from the identifier on stand there in the data, and these are enough, and none is too many
pub record HasRecordsFrom (id : List ℕ) (last : Option (List ℕ)) (most : ℕ) (rows : List Series) (extent : Extent) : Type 0 where
  pub before : List Series
  pub some : List Series
  pub later : List Series
  pub split : rows ≡ before ++ (some ++ later)
  pub below : AreBelow id before
  pub reached : NoneIsBelow id some
  pub at : 1 ≤ length some → extent.at ≡ length (data_bytes before)
  pub len : extent.len ≡ length (data_bytes some)
  pub enough : AreEnough last most some later extent.whole
  pub within : NoneIsBeyond last some
  pub needed : AreNeeded most some
  pub part : extent.whole ≡ false → ¬ AreBeyond last later

-- there the entries begin of the rows behind some that are below the identifier
pub record BeginsAt (format : ℕ) (id : List ℕ) (rows : List Series) (at : ℕ) : Type 0 where
  pub before : List Series
  pub others : List Series
  pub split : rows ≡ before ++ others
  pub is : at ≡ length (index_bytes format before)
  pub below : AreBelow id before

-- there the entries end of the rows before some that are beyond the last identifier
pub record EndsAt (format : ℕ) (last : Option (List ℕ)) (rows : List Series) (to : ℕ) : Type 0 where
  pub front : List Series
  pub later : List Series
  pub split : rows ≡ front ++ later
  pub is : to ≡ length (index_bytes format front)
  pub beyond : AreBeyond last later

-- the records of some of the rows stand there in the data
pub record StandAt (rows some : List Series) (extent : Extent) : Type 0 where
  pub before : List Series
  pub later : List Series
  pub split : rows ≡ before ++ (some ++ later)
  pub at : 1 ≤ length some → extent.at ≡ length (data_bytes before)
  pub len : extent.len ≡ length (data_bytes some)

-- those of some rows do
pub record HasRecords (rows : List Series) (extent : Extent) : Type 0 where
  pub some : List Series
  pub stand : StandAt rows some extent

-- these are the rows whose records do
abbrev pub AreOfExtent : List Series → Extent → List Series → Type 0
AreOfExtent rows extent found = (some : List Series) → StandAt rows some extent → found ≡ some
