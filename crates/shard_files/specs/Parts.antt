-- The files of volumes and snapshots by their names, and which of these count.
use Rattle.std.specs.Prelude.{◌≡◌, ⊤, ℕ, Bool, false, ◌==◌, ◌&&◌, List, [], ◌∷◌, ◌++◌, map, filter, Option, Some, None}
use Rattle.std.specs.FinMap.{get, entries}
use Rattle.commit_log.specs.m3_model.Members.{IsIn}
use Rattle.commit_log.specs.m3_model.declared.point.Series.{Series}
use Rattle.commit_log.specs.m3_outside.Files.{Files}
use Rattle.commit_log.specs.m3_outside.declared.file_name.FileName.{FileName}
use Rattle.commit_log.specs.wire_bytes.Volumes.{VolumeHead, IsVolume, Part, Info, Summaries, Index, Data, Bloom, Digests, Checkpoint, part_bytes, checkpoint_bytes}
use Rattle.commit_log.specs.wire_bytes.Snapshots.{Snapshot, IsSnapshot, snapshot_bytes}

-- ---- what counts

-- the first byte of a file, its gate, is 1
abbrev pub is_open : Option (List ℕ) → Bool
is_open None = false
is_open (Some []) = false
is_open (Some (gate ∷ rest)) = gate == 1

-- the name is one of those asked for, and the file's gate is open
abbrev pub counts : (FileName → Bool) → FileName × List ℕ → Bool
counts is_asked file = is_asked file.0 && is_open (Some file.1)

-- the names of such files, ascending
abbrev pub counted : (FileName → Bool) → Files → List FileName
counted is_asked files = map (λ file. file.0) (filter (counts is_asked) (entries files))

-- ---- volumes

-- the kind in the name of a volume's file
abbrev pub kind_of : Part → ℕ
kind_of Info = 1
kind_of Summaries = 2
kind_of Index = 3
kind_of Data = 4
kind_of Bloom = 5
kind_of Digests = 6
kind_of Checkpoint = 7

-- the name of the file of a volume, by namespace, start and number
abbrev pub part_name : Part → ℕ → ℕ → ℕ → FileName
part_name part ns start number = record { kind = kind_of part; ns = ns; block = start; number = number }

abbrev pub part_of : Part → VolumeHead → FileName
part_of part v = part_name part v.ns v.start v.number

-- volumes of this format are read; so far there is one format
abbrev pub IsRead : ℕ → Type 0
IsRead format = format ≡ 1

-- the volume of these rows is there: each of its files has the bytes that the rows give
pub record VolumeHolds (v : VolumeHead) (rows : List Series) (files : Files) : Type 0 where
  pub values : IsVolume v rows
  pub read : IsRead v.format
  pub parts : (part : Part) → get files (part_of part v) ≡ Some (part_bytes part v rows)

abbrev pub is_volume_checkpoint : FileName → Bool
is_volume_checkpoint name = name.kind == 7

-- the checkpoints of the volumes that count, ascending by namespace, start and number
abbrev pub counted_volumes : Files → List FileName
counted_volumes files = counted is_volume_checkpoint files

-- a volume as it is known: its head and its rows
pub record KnownVolume : Type 0 where
  pub head : VolumeHead
  pub rows : List Series

-- the volume of this checkpoint is the known one
pub record IsKnown (files : Files) (name : FileName) (k : KnownVolume) : Type 0 where
  pub named : name ≡ part_of Checkpoint k.head
  pub holds : VolumeHolds k.head k.rows files

-- the volumes of these checkpoints are the known ones, one for one
abbrev pub AreKnown : Files → List FileName → List KnownVolume → Type 0
AreKnown files [] [] = ⊤
AreKnown files [] (k ∷ known) = ⊥
AreKnown files (name ∷ names) [] = ⊥
AreKnown files (name ∷ names) (k ∷ known) = IsKnown files name k × AreKnown files names known

-- the volumes that count are these
abbrev pub VolumesAre : List KnownVolume → Files → Type 0
VolumesAre known files = AreKnown files (counted_volumes files) known

-- ---- snapshots

abbrev pub snapshot_data : ℕ → FileName
snapshot_data number = record { kind = 8; ns = 0; block = 0; number = number }

abbrev pub snapshot_checkpoint : ℕ → FileName
snapshot_checkpoint number = record { kind = 9; ns = 0; block = 0; number = number }

-- the snapshot is there: both of its files have the bytes that it gives
pub record SnapshotHolds (s : Snapshot) (files : Files) : Type 0 where
  pub values : IsSnapshot s
  pub body : get files (snapshot_data s.number) ≡ Some (snapshot_bytes s)
  pub checkpoint : get files (snapshot_checkpoint s.number) ≡ Some (checkpoint_bytes (snapshot_bytes s))

abbrev pub is_snapshot_checkpoint : FileName → Bool
is_snapshot_checkpoint name = (name.kind == 9) && ((name.ns == 0) && (name.block == 0))

-- the checkpoints of the snapshots that count, ascending by number
abbrev pub counted_snapshots : Files → List FileName
counted_snapshots files = counted is_snapshot_checkpoint files

-- the snapshot is the last one that counts
pub record IsNewest (s : Snapshot) (files : Files) : Type 0 where
  pub older : List FileName
  pub last : counted_snapshots files ≡ older ++ snapshot_checkpoint s.number ∷ []
  pub holds : SnapshotHolds s files

-- the newest snapshot that counts is this one; none where none counts
abbrev pub NewestIs : Option Snapshot → Files → Type 0
NewestIs None files = counted_snapshots files ≡ []
NewestIs (Some s) files = IsNewest s files

-- the number of the snapshot; 0 where there is none
abbrev pub number_in_newest : Option Snapshot → ℕ
number_in_newest None = 0
number_in_newest (Some s) = s.number

-- the newest snapshot that counts has this number; 0 where none counts
pub record IsNewestNumber (number : ℕ) (files : Files) : Type 0 where
  pub newest : Option Snapshot
  pub is : NewestIs newest files
  pub number_is : number ≡ number_in_newest newest

-- the snapshot of this checkpoint is whole
pub record IsWhole (files : Files) (name : FileName) : Type 0 where
  pub snapshot : Snapshot
  pub named : name ≡ snapshot_checkpoint snapshot.number
  pub holds : SnapshotHolds snapshot files

-- each snapshot that counts is whole
abbrev pub AreWhole : Files → Type 0
AreWhole files = (name : FileName) → IsIn (counted_snapshots files) name → IsWhole files name
