-- What files hold is one thing, and a matter of few files.
use Rattle.std.specs.Prelude.{◌≡◌, ◌≤◌, ◌↔◌, max, ℕ, true, List, Option}
use Rattle.std.specs.FinMap.{get}
use Rattle.commit_log.specs.m3_model.declared.point.Point.{Point}
use Rattle.commit_log.specs.m3_model.declared.point.Series.{Series}
use Rattle.commit_log.specs.m3_outside.Files.{Files, IsAbsent}
use Rattle.commit_log.specs.m3_outside.declared.file_name.FileName.{FileName}
use Rattle.commit_log.specs.LogEnd.{NoneAbove, NoneFrom, MayBeginSegment}
use Rattle.commit_log.specs.Segment.{segment, MayAdd, Adds}
use Rattle.commit_log.specs.wire_bytes.Snapshots.{Snapshot}
use Rattle.commit_log.specs.wire_bytes.Volumes.{VolumeHead, points_of_rows}
use Rattle.shard_files.specs.declared.entries.LogEntry.{LogEntry}
use Rattle.shard_files.specs.Entries.{IsEntry}
use Rattle.shard_files.specs.HeldEntries.{HoldsEntries, LogAmountsTo}
use Rattle.shard_files.specs.Gains.{nothing, Gains, MayGain}
use Rattle.shard_files.specs.LogSteps.{gain_in}
use Rattle.shard_files.specs.Parts.{VolumeHolds, KnownVolume, VolumesAre, SnapshotHolds, NewestIs, AreWhole, counted_volumes, counted_snapshots, is_volume_checkpoint, is_snapshot_checkpoint}
use Rattle.shard_files.specs.FilesHold.{FilesHold, HoldWhole}
use Rattle.shard_files.specs.Steps.{IsPartOf, IsOfSnapshot}

-- files hold one list of points, one tenure and one fence
abbrev pub FilesHoldOne : Type 0
FilesHoldOne = (ps qs : List Point) (t u f g : ℕ) (files : Files) → FilesHold ps t f files → FilesHold qs u g files → (ps ≡ qs) × (t ≡ u) × (f ≡ g)

-- a tenure is a fence too
abbrev pub FilesHoldOrdered : Type 0
FilesHoldOrdered = (ps : List Point) (t f : ℕ) (files : Files) → FilesHold ps t f files → t ≤ f

-- the files of these kinds are the same
abbrev pub SameKinds : ℕ → ℕ → Files → Files → Type 0
SameKinds low high x y = (name : FileName) → low ≤ name.kind → name.kind ≤ high → get y name ≡ get x name

-- which volumes and which snapshots count is a matter of their checkpoints alone
pub record CountedByCheckpoints : Type 0 where
  pub volumes : (x y : Files) → ((name : FileName) → is_volume_checkpoint name ≡ true → get y name ≡ get x name) → counted_volumes y ≡ counted_volumes x
  pub snapshots : (x y : Files) → ((name : FileName) → is_snapshot_checkpoint name ≡ true → get y name ≡ get x name) → counted_snapshots y ≡ counted_snapshots x

-- the volumes that count are a matter of the files of volumes alone, and so are snapshots and the log of theirs
pub record EachByItsFiles : Type 0 where
  pub volumes : (known : List KnownVolume) (x y : Files) → SameKinds 1 7 x y → VolumesAre known x → VolumesAre known y
  pub newest : (s : Option Snapshot) (x y : Files) → SameKinds 8 9 x y → NewestIs s x → NewestIs s y
  pub snapshots : (x y : Files) → SameKinds 8 9 x y → AreWhole x → AreWhole y
  pub log : (es : List LogEntry) (x y : Files) → SameKinds 0 0 x y → HoldsEntries es x → HoldsEntries es y

-- an append to the log changes no volume and no snapshot
pub record AppendKeepsOthers : Type 0 where
  pub volumes : (known : List KnownVolume) (number : ℕ) (chunk : List ℕ) (x y : Files) → MayAdd (segment number) chunk x y → VolumesAre known x → VolumesAre known y
  pub newest : (s : Option Snapshot) (number : ℕ) (chunk : List ℕ) (x y : Files) → MayAdd (segment number) chunk x y → NewestIs s x → NewestIs s y
  pub snapshots : (number : ℕ) (chunk : List ℕ) (x y : Files) → MayAdd (segment number) chunk x y → AreWhole x → AreWhole y

-- An append of an entry to the last segment brings what is in the entry, and while it goes on part of that; a segment that begins brings nothing.
pub record AppendBrings : Type 0 where
  pub all : (e : LogEntry) (bytes : List ℕ) (number : ℕ) (x y : Files) → IsEntry bytes e → NoneAbove number x → Adds (segment number) bytes x y → Gains (gain_in e) x y
  pub part : (e : LogEntry) (bytes : List ℕ) (number : ℕ) (x y : Files) → IsEntry bytes e → NoneAbove number x → MayAdd (segment number) bytes x y → MayGain (gain_in e) x y
  pub begins : (number : ℕ) (x y : Files) → NoneFrom number x → MayBeginSegment number x y → Gains nothing x y

-- files that are those of one volume alone hold its points
abbrev pub VolumeIsHeld : Type 0
VolumeIsHeld = (v : VolumeHead) (rows : List Series) (files : Files) → VolumeHolds v rows files → ((name : FileName) → ¬ IsPartOf v name → IsAbsent name files) → HoldWhole (points_of_rows v.ns rows) 0 0 files

-- files that are those of one snapshot alone hold what it has; its tenure is a fence too
abbrev pub SnapshotIsHeld : Type 0
SnapshotIsHeld = (s : Snapshot) (files : Files) → SnapshotHolds s files → ((name : FileName) → ¬ IsOfSnapshot s.number name → IsAbsent name files) → HoldWhole s.points s.tenure (max s.fence s.tenure) files

-- files of a log alone: none is of a volume or of a snapshot
abbrev pub AreOfLog : Files → Type 0
AreOfLog files = (name : FileName) → 1 ≤ name.kind → IsAbsent name files

-- they hold whole just what the log holds
abbrev pub LogIsHeld : Type 0
LogIsHeld = (points : List Point) (tenure fence : ℕ) (files : Files) → AreOfLog files → LogAmountsTo points tenure fence files ↔ HoldWhole points tenure fence files
