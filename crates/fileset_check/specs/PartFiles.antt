-- The files of one volume, as they were read.
use Rattle.std.specs.Prelude.{◌≡◌, ⊤, ℕ, ◌-◌, ◌≤◌, List, [], ◌∷◌, length, take, drop, get_or, unwrap_or, Option, Some, None}
use Rattle.std.specs.FinMap.{get}
use Rattle.sha2.specs.Sha256.{sha256}
use Rattle.fileset_read.specs.m3_model.declared.point.Series.{Series}
use Rattle.fileset_read.specs.m3_outside.Files.{Files}
use Rattle.fileset_read.specs.m3_outside.declared.file_name.FileName.{FileName}
use Rattle.fileset_read.specs.wire_bytes.Volumes.{VolumeHead, IsVolume, Part, Info, Summaries, Index, Bloom, data_bytes, part_bytes}
use Rattle.fileset_read.specs.shard_files.Damage.{IsInfo}
use Rattle.fileset_read.specs.volume_bytes.Heads.{head_of}
use Rattle.fileset_read.specs.volume_bytes.Tables.{AreTables}
use Rattle.fileset_read.specs.volume_bytes.declared.heads.Head.{Head}
use Rattle.fileset_read.specs.declared.row_err.RowErr.{RowErr}
use Rattle.fileset_read.specs.declared.row_err.RowErr.TheVariants as errors
use Rattle.fileset_check.specs.declared.body.Body.{Body}

-- the name of the file of this kind of the volume of which this is a file
abbrev pub file_of : ℕ → FileName → FileName
file_of kind of = record { kind = kind; ns = of.ns; block = of.block; number = of.number }

-- the file of this kind, by kind from 1 on; none where it isn't there
abbrev pub part_in : List (Option (List ℕ)) → ℕ → Option (List ℕ)
part_in parts kind = get_or parts (kind - 1) None

-- its bytes; none where it isn't there
abbrev pub bytes_in : List (Option (List ℕ)) → ℕ → List ℕ
bytes_in parts kind = unwrap_or (part_in parts kind) []

-- all files of the volume of which this is one
pub record AreParts (of : FileName) (files : Files) (parts : List (Option (List ℕ))) : Type 0 where
  pub all : length parts ≡ 7
  pub each : (kind : ℕ) → 1 ≤ kind → kind ≤ 7 → part_in parts kind ≡ get files (file_of kind of)

-- ---- digests

-- the file is there and keeps to this digest
pub record Keeps (kept : List ℕ) (found : Option (List ℕ)) : Type 0 where
  pub bytes : List ℕ
  pub there : found ≡ Some bytes
  pub is : kept ≡ sha256 bytes

-- an open gate with the digest of the five digests
pub record AreDigests (parts : List (Option (List ℕ))) : Type 0 where
  pub five : List ℕ
  pub checkpoint : part_in parts 7 ≡ Some (1 ∷ sha256 five)
  pub digests : part_in parts 6 ≡ Some five
  pub long : length five ≡ 160

-- each of the five files keeps to its digest
pub record AreSealed (parts : List (Option (List ℕ))) : Type 0 where
  pub digests : AreDigests parts
  pub info : Keeps (take 32 digests.five) (part_in parts 1)
  pub summaries : Keeps (take 32 (drop 32 digests.five)) (part_in parts 2)
  pub index : Keeps (take 32 (drop 64 digests.five)) (part_in parts 3)
  pub body : Keeps (take 32 (drop 96 digests.five)) (part_in parts 4)
  pub bloom : Keeps (take 32 (drop 128 digests.five)) (part_in parts 5)

-- ---- head and rows

-- the bytes are the info of a volume of this name, with this head
abbrev pub HasHead : FileName → List ℕ → Head → Type 0
HasHead of bytes head = IsInfo of.ns of.block of.number (head_of head) bytes

-- the series are those of a volume of this head, and the bytes are its data
pub record IsBody (v : VolumeHead) (bytes : List ℕ) (b : Body) : Type 0 where
  pub values : IsVolume v b.rows
  pub is : bytes ≡ data_bytes b.rows
  pub tables : AreTables b.rows b.tables

-- memory is wanted, or no volume of this head has the bytes as its data
abbrev pub MayBeNoData : VolumeHead → List ℕ → RowErr → Type 0
MayBeNoData v bytes errors.Memory = ⊤
MayBeNoData v bytes errors.Form = (rows : List Series) → IsVolume v rows → ¬ (bytes ≡ data_bytes rows)

-- ---- what the rows give

-- the bytes are these
abbrev pub Spells : List ℕ → List ℕ → Type 0
Spells word bytes = bytes ≡ word

-- info, summaries, index and bloom filter are those of the volume
pub record AreDerived (v : VolumeHead) (rows : List Series) (parts : List (Option (List ℕ))) : Type 0 where
  pub info : bytes_in parts 1 ≡ part_bytes Info v rows
  pub summaries : bytes_in parts 2 ≡ part_bytes Summaries v rows
  pub index : bytes_in parts 3 ≡ part_bytes Index v rows
  pub bloom : bytes_in parts 5 ≡ part_bytes Bloom v rows
