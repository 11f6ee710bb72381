-- What is done to the files of volumes and snapshots, whatever a stop leaves of it.
use Rattle.std.specs.Prelude.{◌≡◌, ◌⊎◌, ℕ, Bool, false, ◌==◌, ◌&&◌, nat_le, nat_lt, is_some, List, [], ◌∷◌, ◌++◌, map, filter}
use Rattle.std.specs.FinMap.{get, keys}
use Rattle.commit_log.specs.m3_model.declared.point.Series.{Series}
use Rattle.commit_log.specs.m3_outside.Files.{Files}
use Rattle.commit_log.specs.m3_outside.declared.file_name.FileName.{FileName}
use Rattle.commit_log.specs.Contents.{next_after}
use Rattle.commit_log.specs.wire_bytes.Volumes.{VolumeHead, Part, Info, Summaries, Index, Data, Bloom, Digests, Checkpoint}
use Rattle.commit_log.specs.wire_bytes.Snapshots.{Snapshot}
use Rattle.shard_files.specs.Parts.{is_open, part_name, part_of, VolumeHolds, snapshot_data, snapshot_checkpoint, SnapshotHolds}

-- all files that aren't one's own are as before
abbrev pub OthersStay : (FileName → Type 0) → Files → Files → Type 0
OthersStay Own old new = (name : FileName) → ¬ Own name → get new name ≡ get old name

-- those of the files that are there, in the order of the names
abbrev pub those_there : List FileName → Files → List FileName
those_there names files = filter (λ name. is_some (get files name)) names

-- ---- a volume

-- whether the name is that of a file of some volume of this namespace and this start
abbrev pub is_part : ℕ → ℕ → FileName → Bool
is_part ns start name = (nat_le 1 name.kind && nat_le name.kind 7) && ((name.ns == ns) && (name.block == start))

-- one above the numbers of all volumes of the namespace and start of which a file is there, complete or not; 1 where there is none
abbrev pub next_volume : ℕ → ℕ → Files → ℕ
next_volume ns start files = next_after (map (λ name. name.number) (filter (is_part ns start) (keys files)))

-- the volume of this format that is written next
abbrev pub volume_after : ℕ → ℕ → ℕ → ℕ → Files → VolumeHead
volume_after format ns start size files = record { format = format; ns = ns; start = start; size = size; number = next_volume ns start files }

-- the name is that of one of the volume's files
pub record IsPartOf (v : VolumeHead) (name : FileName) : Type 0 where
  pub part : Part
  pub is : name ≡ part_of part v

-- while a volume is written: it is there whole, or it doesn't count; all other files stay
pub record MayWrite (v : VolumeHead) (rows : List Series) (old new : Files) : Type 0 where
  pub others : OthersStay (IsPartOf v) old new
  pub either : (is_open (get new (part_of Checkpoint v)) ≡ false) ⊎ VolumeHolds v rows new

-- the volume was written: it is there whole; all other files stay
pub record Wrote (v : VolumeHead) (rows : List Series) (old new : Files) : Type 0 where
  pub others : OthersStay (IsPartOf v) old new
  pub holds : VolumeHolds v rows new

-- the volume wasn't written: it doesn't count; all other files stay
pub record WroteNone (v : VolumeHead) (old new : Files) : Type 0 where
  pub others : OthersStay (IsPartOf v) old new
  pub closed : is_open (get new (part_of Checkpoint v)) ≡ false

-- the files of a volume in the order in which they are taken away: the checkpoint first
abbrev pub files_of_volume : ℕ → ℕ → ℕ → List FileName
files_of_volume ns start number = map (λ part. part_name part ns start number) (Checkpoint ∷ Info ∷ Summaries ∷ Index ∷ Data ∷ Bloom ∷ Digests ∷ [])

-- those of them that are there
abbrev pub parts_there : ℕ → ℕ → ℕ → Files → List FileName
parts_there ns start number files = those_there (files_of_volume ns start number) files

-- ---- a snapshot

-- whether the name is that of a snapshot's file of this kind
abbrev pub is_snapshot_file : ℕ → FileName → Bool
is_snapshot_file kind name = (name.kind == kind) && ((name.ns == 0) && (name.block == 0))

-- one above the numbers of all snapshots of which a file is there, complete or not; 1 where there is none
abbrev pub next_snapshot : Files → ℕ
next_snapshot files = next_after (map (λ name. name.number) (filter (is_snapshot_file 8) (keys files) ++ filter (is_snapshot_file 9) (keys files)))

-- the name is that of one of the snapshot's files
abbrev pub IsOfSnapshot : ℕ → FileName → Type 0
IsOfSnapshot number name = (name ≡ snapshot_data number) ⊎ (name ≡ snapshot_checkpoint number)

-- while a snapshot is saved: it is there whole, or it doesn't count; all other files stay
pub record MaySave (s : Snapshot) (old new : Files) : Type 0 where
  pub others : OthersStay (IsOfSnapshot s.number) old new
  pub either : (is_open (get new (snapshot_checkpoint s.number)) ≡ false) ⊎ SnapshotHolds s new

-- the snapshot was saved: it is there whole; all other files stay
pub record Saved (s : Snapshot) (old new : Files) : Type 0 where
  pub others : OthersStay (IsOfSnapshot s.number) old new
  pub holds : SnapshotHolds s new

-- the snapshot wasn't saved: it doesn't count; all other files stay
pub record SavedNone (number : ℕ) (old new : Files) : Type 0 where
  pub others : OthersStay (IsOfSnapshot number) old new
  pub closed : is_open (get new (snapshot_checkpoint number)) ≡ false

-- whether the name is that of a file of this kind of a snapshot below this number
abbrev pub is_older : ℕ → ℕ → FileName → Bool
is_older kind number name = is_snapshot_file kind name && nat_lt name.number number

-- the files of the snapshots below this number in the order in which they are taken away: all checkpoints first
abbrev pub snapshots_below : ℕ → Files → List FileName
snapshots_below number files = filter (is_older 9 number) (keys files) ++ filter (is_older 8 number) (keys files)
