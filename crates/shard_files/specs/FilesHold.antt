-- What the files of a replica's disk hold, whole: the volumes that count, the newest snapshot that counts, and the log.
use Rattle.std.specs.Prelude.{◌≡◌, ℕ, max, List, [], ◌++◌, Option, Some, None, flat_map}
use Rattle.commit_log.specs.m3_model.declared.point.Point.{Point}
use Rattle.commit_log.specs.m3_outside.Files.{Files}
use Rattle.commit_log.specs.wire_bytes.Volumes.{points_of_rows}
use Rattle.commit_log.specs.wire_bytes.Snapshots.{Snapshot}
use Rattle.shard_files.specs.declared.entries.LogEntry.{LogEntry}
use Rattle.shard_files.specs.HeldEntries.{HoldsEntries, points_of, tenure_of, fence_of}
use Rattle.shard_files.specs.Parts.{KnownVolume, VolumesAre, NewestIs, AreWhole}

-- what counts of the files
pub record Counted : Type 0 where
  pub volumes : List KnownVolume
  pub newest : Option Snapshot
  pub entries : List LogEntry

-- of these files this counts
pub record HoldParts (parts : Counted) (files : Files) : Type 0 where
  pub volumes : VolumesAre parts.volumes files
  pub newest : NewestIs parts.newest files
  pub log : HoldsEntries parts.entries files

abbrev pub points_known : KnownVolume → List Point
points_known k = points_of_rows k.head.ns k.rows

-- the points of all these volumes, also several of one key
abbrev pub volume_points : List KnownVolume → List Point
volume_points known = flat_map points_known known

abbrev pub points_in_newest : Option Snapshot → List Point
points_in_newest None = []
points_in_newest (Some s) = s.points

-- 0 where there is no snapshot
abbrev pub tenure_in_newest : Option Snapshot → ℕ
tenure_in_newest None = 0
tenure_in_newest (Some s) = s.tenure

-- a tenure is a fence too; 0 where there is no snapshot
abbrev pub fence_in_newest : Option Snapshot → ℕ
fence_in_newest None = 0
fence_in_newest (Some s) = max s.fence s.tenure

-- all points: of the volumes, then of the snapshot, then of the log; also several of one key
abbrev pub file_points : Counted → List Point
file_points parts = volume_points parts.volumes ++ (points_in_newest parts.newest ++ points_of parts.entries)

-- the greatest tenure of the snapshot and the log
abbrev pub file_tenure : Counted → ℕ
file_tenure parts = max (tenure_in_newest parts.newest) (tenure_of parts.entries)

-- the greatest fence or tenure of the snapshot and the log
abbrev pub file_fence : Counted → ℕ
file_fence parts = max (fence_in_newest parts.newest) (fence_of parts.entries)

-- the files hold these points, also several of one key, this tenure and this fence
pub record FilesHold (points : List Point) (tenure fence : ℕ) (files : Files) : Type 0 where
  pub parts : Counted
  pub holds : HoldParts parts files
  pub points_are : points ≡ file_points parts
  pub tenure_is : tenure ≡ file_tenure parts
  pub fence_is : fence ≡ file_fence parts

-- the files hold something: the volumes that count, the newest snapshot that counts and the log are in their grammar, as a replica finds them that begins
pub record IsSound (files : Files) : Type 0 where
  pub points : List Point
  pub tenure : ℕ
  pub fence : ℕ
  pub held : FilesHold points tenure fence files

-- the files hold this, and each older snapshot that counts is whole too
pub record HoldWhole (points : List Point) (tenure fence : ℕ) (files : Files) : Type 0 where
  pub held : FilesHold points tenure fence files
  pub snapshots : AreWhole files

-- each of the files that counts is in its grammar, also an older snapshot, which no replica reads
pub record AreSound (files : Files) : Type 0 where
  pub points : List Point
  pub tenure : ℕ
  pub fence : ℕ
  pub whole : HoldWhole points tenure fence files
