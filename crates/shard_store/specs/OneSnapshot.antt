-- What a snapshot leaves in the files; M3DB's page "Commit Logs and Snapshot Files".
use Rattle.std.specs.Prelude.{◌≡◌, ◌↔◌, ℕ, ◌<◌, ◌++◌, List, [], ◌∷◌}
use Rattle.m3_model.specs.Answers.{HasPoint}
use Rattle.m3_model.specs.Contents.{Contents}
use Rattle.m3_model.specs.Members.{IsIn}
use Rattle.m3_model.specs.declared.limits.TheConstants.{TIME_END}
use Rattle.m3_model.specs.declared.point.Pick.TheVariants as pick
use Rattle.m3_model.specs.declared.point.Point.{Point}
use Rattle.m3_model.specs.declared.point.Series.{Series}
use Rattle.m3_outside.specs.Files.{Files}
use Rattle.store_log.specs.listed_volumes.commit_log.Contents.{numbers}
use Rattle.store_log.specs.listed_volumes.commit_log.Segment.{segment, HasChunks}
use Rattle.store_log.specs.listed_volumes.series_slots.Ranges.{IsRangeOf}
use Rattle.store_log.specs.listed_volumes.wire_bytes.Snapshots.{Snapshot}
use Rattle.store_log.specs.listed_volumes.wire_bytes.Volumes.{points_of_rows}
use Rattle.store_log.specs.listed_volumes.shard_files.Parts.{SnapshotHolds, counted_snapshots, snapshot_checkpoint}
use Rattle.store_log.specs.snapshot_steps.Saved.{AreIn}

-- The one snapshot that counts has this number, just the points in memory, this tenure and this fence. The log is the one segment of this number, without chunks.
pub record HasOneSnapshot (number first : ℕ) (memory : Contents) (tenure fence : ℕ) (files : Files) : Type 0 where
  pub snapshot : Snapshot
  pub number_is : snapshot.number ≡ number
  pub alone : counted_snapshots files ≡ snapshot_checkpoint number ∷ []
  pub whole : SnapshotHolds snapshot files
  pub points : AreIn memory snapshot.points
  pub tenure_is : snapshot.tenure ≡ tenure
  pub fence_is : snapshot.fence ≡ fence
  pub first_is : snapshot.first_segment ≡ first
  pub segments : numbers files ≡ first ∷ []
  pub no_chunks : HasChunks (segment first) [] files

-- just those points of the content that are of a namespace below this one, and whose times are below the end of all
abbrev pub AreBelow : ℕ → Contents → List Point → Type 0
AreBelow ns memory points = (p : Point) → IsIn points p ↔ (HasPoint memory p × ((p.ns < ns) × (p.t < TIME_END)))

-- behind some points those of the content that are of this namespace
pub record AddsSpace (ns : ℕ) (memory : Contents) (old new : List Point) : Type 0 where
  pub rows : List Series
  pub are : IsRangeOf memory (pick.Match ns []) 0 TIME_END rows
  pub new_is : new ≡ old ++ points_of_rows ns rows
