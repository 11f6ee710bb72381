-- What files hold while a snapshot is taken, in the words of what is in memory of them.
use Rattle.std.specs.Prelude.{◌≡◌, ◌↔◌, ◌<◌, ◌^◌, ℕ, List, length, Some}
use Rattle.std.specs.declared.cmp.Ordering.TheVariants.{Less}
use Rattle.m3_model.specs.Answers.{HasPoint}
use Rattle.m3_model.specs.Ascends.{Ascends}
use Rattle.m3_model.specs.Contents.{Contents, key_of}
use Rattle.m3_model.specs.Keys.{key_cmp}
use Rattle.m3_model.specs.Members.{IsIn}
use Rattle.m3_model.specs.declared.point.Point.{Point}
use Rattle.snapshot_files.specs.m3_outside.Files.{Files}
use Rattle.snapshot_files.specs.wire_bytes.Entries.{AllBounded}
use Rattle.snapshot_files.specs.wire_bytes.Snapshots.{Snapshot}
use Rattle.snapshot_files.specs.shard_files.Parts.{KnownVolume}
use Rattle.volume_steps.specs.Known.{HoldsKnown}

-- a snapshot may have these points: each within its bounds, by ascending key, no two with one
pub record AreSaveable (points : List Point) : Type 0 where
  pub counted : length points < 2 ^ 32
  pub bounded : AllBounded points
  pub ascending : Ascends (λ a b. key_cmp (key_of a) (key_of b) ≡ Less) points

-- the points are just those in memory
abbrev pub AreIn : Contents → List Point → Type 0
AreIn memory points = (p : Point) → IsIn points p ↔ HasPoint memory p

-- the snapshot of this number, with this tenure, this fence and these points, beside which the log is needed from this segment on
abbrev pub snapshot_of : ℕ → ℕ → ℕ → ℕ → List Point → Snapshot
snapshot_of number tenure fence first points = record { number = number; tenure = tenure; fence = fence; first_segment = first; points = points }

-- The files hold what is in memory, and the newest snapshot that counts is this one, with each point in memory, the tenure and the fence.
pub record HoldsSaved (s : Snapshot) (memory : Contents) (known : List KnownVolume) (tenure fence : ℕ) (files : Files) : Type 0 where
  pub holds : HoldsKnown memory known tenure fence files
  pub newest : holds.held.parts.newest ≡ Some s
  pub all : (p : Point) → HasPoint memory p → IsIn s.points p
  pub tenure_is : s.tenure ≡ tenure
  pub fence_is : s.fence ≡ fence
