-- Where a volume is written, one is taken away, a snapshot is saved, the log is cut and older snapshots are taken away, each stop keeps what is to be kept.
use Rattle.std.specs.Prelude.{◌≡◌, ◌⊎◌, ◌≤◌, ◌<◌, ℕ, true, false, List, [], ◌∷◌, ◌++◌}
use Rattle.std.specs.FinMap.{get}
use Rattle.commit_log.specs.m3_model.Answers.{HasPoint}
use Rattle.commit_log.specs.m3_model.Contents.{Contents}
use Rattle.commit_log.specs.m3_model.Members.{IsIn}
use Rattle.commit_log.specs.m3_model.declared.point.Point.{Point}
use Rattle.commit_log.specs.m3_model.declared.point.Series.{Series}
use Rattle.commit_log.specs.m3_outside.Files.{Files, IsAbsent}
use Rattle.commit_log.specs.m3_outside.DiskState.{DiskState, EachImage, Elapses, HaveSameNames}
use Rattle.commit_log.specs.m3_outside.Removal.{MayTakeAway, without_files}
use Rattle.commit_log.specs.m3_outside.declared.file_name.FileName.{FileName}
use Rattle.commit_log.specs.Cutting.{segments_below}
use Rattle.commit_log.specs.wire_bytes.Volumes.{VolumeHead, Part, Checkpoint, points_of_rows}
use Rattle.commit_log.specs.wire_bytes.Snapshots.{Snapshot}
use Rattle.shard_files.specs.HeldEntries.{points_of, tenure_of, fence_of}
use Rattle.shard_files.specs.Parts.{KnownVolume, part_name, part_of, is_open, counted_volumes, counted_snapshots, snapshot_data, snapshot_checkpoint, IsNewest}
use Rattle.shard_files.specs.FilesHold.{Counted, HoldParts, FilesHold, AreSound, points_known, volume_points, points_in_newest, tenure_in_newest, fence_in_newest}
use Rattle.shard_files.specs.Keeps.{IsFilePoint, HoldContent, Keeps}
use Rattle.shard_files.specs.Steps.{next_snapshot, volume_after, MayWrite, Wrote, WroteNone, parts_there, IsOfSnapshot, MaySave, Saved, SavedNone, snapshots_below}

-- ---- a volume that is written

-- none of its files is there, its points are file points already, and so are those that are to be kept
pub record MayBeWritten (kept : Contents) (v : VolumeHead) (rows : List Series) (files : Files) : Type 0 where
  pub absent : (part : Part) → IsAbsent (part_of part v) files
  pub points : (p : Point) → IsIn (points_of_rows v.ns rows) p → IsFilePoint p files
  pub whole : HoldContent kept files

abbrev pub WriteKeeps : Type 0
WriteKeeps = (kept : Contents) (v : VolumeHead) (rows : List Series) (x y : Files) → MayBeWritten kept v rows x → MayWrite v rows x y → Keeps kept x y

-- no file of the next volume is there
abbrev pub NextVolumeIsNew : Type 0
NextVolumeIsNew = (format ns start size : ℕ) (files : Files) (part : Part) → IsAbsent (part_of part (volume_after format ns start size files)) files

-- ---- a volume that is taken away

-- the point is one of another volume, or of the snapshot or the log
abbrev pub IsElsewhere : FileName → Counted → Point → Type 0
IsElsewhere name parts p =
    ((k : KnownVolume) × IsIn parts.volumes k × (¬ (part_of Checkpoint k.head ≡ name)) × IsIn (points_known k) p) ⊎ IsIn (points_in_newest parts.newest ++ points_of parts.entries) p

-- each point that is to be kept stands elsewhere too
abbrev pub MayBeTaken : Contents → ℕ → ℕ → ℕ → Files → Type 0
MayBeTaken kept ns start number files = (parts : Counted) → HoldParts parts files → (p : Point) → HasPoint kept p → IsElsewhere (part_name Checkpoint ns start number) parts p

abbrev pub TakeKeeps : Type 0
TakeKeeps = (kept : Contents) (ns start number : ℕ) (x y : Files) → MayBeTaken kept ns start number x → MayTakeAway (parts_there ns start number x) x y → Keeps kept x y

-- ---- a snapshot that is saved

-- Neither of its files is there, it is above all that count, its points are file points already, its tenure and its fence are those of the files, and what is
-- to be kept stands in the volumes, in it or in the log.
pub record MayBeSaved (kept : Contents) (s : Snapshot) (files : Files) : Type 0 where
  pub absent : (name : FileName) → IsOfSnapshot s.number name → IsAbsent name files
  pub above : (name : FileName) → IsIn (counted_snapshots files) name → name.number < s.number
  pub points : (p : Point) → IsIn s.points p → IsFilePoint p files
  pub numbers : (points : List Point) (tenure fence : ℕ) → FilesHold points tenure fence files → (s.tenure ≡ tenure) × (s.fence ≡ fence)
  pub whole : HoldContent kept files
  pub without_older : (parts : Counted) → HoldParts parts files → (p : Point) → HasPoint kept p → IsIn (volume_points parts.volumes ++ (s.points ++ points_of parts.entries)) p

abbrev pub SaveKeeps : Type 0
SaveKeeps = (kept : Contents) (s : Snapshot) (x y : Files) → MayBeSaved kept s x → MaySave s x y → Keeps kept x y

-- neither file of the next snapshot is there, and it is above all that count
pub record NextSnapshotIsNew : Type 0 where
  pub absent : (files : Files) (name : FileName) → IsOfSnapshot (next_snapshot files) name → IsAbsent name files
  pub above : (files : Files) (name : FileName) → IsIn (counted_snapshots files) name → name.number < next_snapshot files

-- ---- a log that is cut

-- what is to be kept stands in the volumes or in the snapshot, and the log has no higher tenure or fence than the snapshot
pub record MayBeCut (kept : Contents) (files : Files) : Type 0 where
  pub points : (parts : Counted) → HoldParts parts files → (p : Point) → HasPoint kept p → IsIn (volume_points parts.volumes ++ points_in_newest parts.newest) p
  pub tenure : (parts : Counted) → HoldParts parts files → tenure_of parts.entries ≤ tenure_in_newest parts.newest
  pub fence : (parts : Counted) → HoldParts parts files → fence_of parts.entries ≤ fence_in_newest parts.newest

abbrev pub CutKeeps : Type 0
CutKeeps = (kept : Contents) (number : ℕ) (x y : Files) → MayBeCut kept x → MayTakeAway (segments_below number x) x y → Keeps kept x y

-- ---- older snapshots that are taken away

-- a snapshot counts that isn't below the number, and what is to be kept is there
pub record MayBeCleared (kept : Contents) (number : ℕ) (files : Files) : Type 0 where
  pub snapshot : Snapshot
  pub newest : IsNewest snapshot files
  pub not_below : number ≤ snapshot.number
  pub whole : HoldContent kept files

abbrev pub ClearKeeps : Type 0
ClearKeeps = (kept : Contents) (number : ℕ) (x y : Files) → MayBeCleared kept number x → MayTakeAway (snapshots_below number x) x y → Keeps kept x y

-- ---- what is done is a step, too

-- a volume that was written counts, one that wasn't doesn't, and both are steps of its writing; likewise a snapshot
pub record DoneIsStep : Type 0 where
  pub wrote : (v : VolumeHead) (rows : List Series) (x y : Files) → Wrote v rows x y → MayWrite v rows x y × IsIn (counted_volumes y) (part_of Checkpoint v)
  pub wrote_none : (v : VolumeHead) (rows : List Series) (x y : Files) → WroteNone v x y → MayWrite v rows x y × (¬ IsIn (counted_volumes y) (part_of Checkpoint v))
  pub saved : (s : Snapshot) (x y : Files) → Saved s x y → MaySave s x y × IsIn (counted_snapshots y) (snapshot_checkpoint s.number)
  pub saved_none : (s : Snapshot) (x y : Files) → SavedNone s.number x y → MaySave s x y × (¬ IsIn (counted_snapshots y) (snapshot_checkpoint s.number))

-- ---- which files are taken away

-- it is a matter of the names that are there, so the same for reads and in each image
pub record TakenByNames : Type 0 where
  pub volume : (ns start number : ℕ) (x y : Files) → HaveSameNames x y → parts_there ns start number y ≡ parts_there ns start number x
  pub snapshots : (number : ℕ) (x y : Files) → HaveSameNames x y → snapshots_below number y ≡ snapshots_below number x
  pub segments : (number : ℕ) (x y : Files) → HaveSameNames x y → segments_below number y ≡ segments_below number x

-- ---- on a disk

-- Where each image allows the step, a stop at any moment of it leaves what is to be kept. What is taken away is told by the files that reads give.
pub record StepsKeep {D : Type 0} (state : D → DiskState) : Type 0 where
  pub written : (old new : D) (kept : Contents) (v : VolumeHead) (rows : List Series) → (state old).tells ≡ true → EachImage (state old) (MayBeWritten kept v rows) → Elapses (MayWrite v rows) (state old) (state new) → Elapses (Keeps kept) (state old) (state new)
  pub taken : (old new : D) (kept : Contents) (ns start number : ℕ) → (state old).tells ≡ true → EachImage (state old) (MayBeTaken kept ns start number)
      → Elapses (MayTakeAway (parts_there ns start number (state old).files)) (state old) (state new) → Elapses (Keeps kept) (state old) (state new)
  pub saved : (old new : D) (kept : Contents) (s : Snapshot) → (state old).tells ≡ true → EachImage (state old) (MayBeSaved kept s) → Elapses (MaySave s) (state old) (state new) → Elapses (Keeps kept) (state old) (state new)
  pub cut : (old new : D) (kept : Contents) (number : ℕ) → (state old).tells ≡ true → EachImage (state old) (MayBeCut kept) → Elapses (MayTakeAway (segments_below number (state old).files)) (state old) (state new) → Elapses (Keeps kept) (state old) (state new)
  pub cleared : (old new : D) (kept : Contents) (number : ℕ) → (state old).tells ≡ true → EachImage (state old) (MayBeCleared kept number)
      → Elapses (MayTakeAway (snapshots_below number (state old).files)) (state old) (state new) → Elapses (Keeps kept) (state old) (state new)

-- ---- what the definitions refuse

-- a volume whose gate is closed, or whose checkpoint isn't there, doesn't count
abbrev pub ClosedIsUncounted : Type 0
ClosedIsUncounted = (ns start number : ℕ) (files : Files) → is_open (get files (part_name Checkpoint ns start number)) ≡ false → ¬ IsIn (counted_volumes files) (part_name Checkpoint ns start number)

-- files hold nothing in which a volume counts that lacks one of its files
abbrev pub VolumeNeedsItsFiles : Type 0
VolumeNeedsItsFiles =
    (ns start number : ℕ) (part : Part) (files : Files) → is_open (get files (part_name Checkpoint ns start number)) ≡ true → IsAbsent (part_name part ns start number) files
    → (points : List Point) (tenure fence : ℕ) → ¬ FilesHold points tenure fence files

-- so a volume that counts can't be taken away in another order: a stop behind the first file would leave unsound files
abbrev pub CheckpointGoesFirst : Type 0
CheckpointGoesFirst = (ns start number : ℕ) (part : Part) (files : Files) → ¬ (part ≡ Checkpoint) → is_open (get files (part_name Checkpoint ns start number)) ≡ true → ¬ AreSound (without_files (part_name part ns start number ∷ []) files)

-- files aren't sound in which a snapshot counts, be it the newest or an older one, that lacks its data
abbrev pub SnapshotNeedsItsData : Type 0
SnapshotNeedsItsData = (number : ℕ) (files : Files) → is_open (get files (snapshot_checkpoint number)) ≡ true → IsAbsent (snapshot_data number) files → ¬ AreSound files
