-- What files hold, in the words of what is in memory of them.
use Rattle.std.specs.Prelude.{◌≡◌, ◌⊎◌, ℕ, List, ◌++◌}
use Rattle.m3_model.specs.Answers.{HasPoint}
use Rattle.m3_model.specs.Contents.{Contents}
use Rattle.m3_model.specs.Members.{IsIn}
use Rattle.m3_model.specs.declared.point.Point.{Point}
use Rattle.m3_model.specs.declared.point.Series.{Series}
use Rattle.shard_files.specs.m3_outside.Files.{Files}
use Rattle.shard_files.specs.wire_bytes.Volumes.{points_of_rows}
use Rattle.shard_files.specs.HeldEntries.{points_of}
use Rattle.shard_files.specs.Parts.{KnownVolume}
use Rattle.shard_files.specs.FilesHold.{Counted, FilesHold, points_in_newest, volume_points}

-- the points beside those of volumes: of the newest snapshot, then of the log
abbrev pub points_beside : Counted → List Point
points_beside parts = points_in_newest parts.newest ++ points_of parts.entries

-- The files hold something, as a replica finds it that begins, with this tenure and this fence. Just the known volumes count, and each point in memory stands
-- in the newest snapshot or in the log.
pub record HoldsKnown (memory : Contents) (known : List KnownVolume) (tenure fence : ℕ) (files : Files) : Type 0 where
  pub points : List Point
  pub held : FilesHold points tenure fence files
  pub volumes : held.parts.volumes ≡ known
  pub there : (p : Point) → HasPoint memory p → IsIn (points_beside held.parts) p

-- the point is in memory or one of these volumes
abbrev pub StandsIn : Contents → List KnownVolume → Point → Type 0
StandsIn memory known p = HasPoint memory p ⊎ IsIn (volume_points known) p

-- each point of the content is there
abbrev pub HaveContent : Contents → List KnownVolume → Contents → Type 0
HaveContent memory known content = (p : Point) → HasPoint content p → StandsIn memory known p

-- each point of these rows is there
abbrev pub HaveRows : Contents → List KnownVolume → ℕ → List Series → Type 0
HaveRows memory known ns rows = (p : Point) → IsIn (points_of_rows ns rows) p → StandsIn memory known p
