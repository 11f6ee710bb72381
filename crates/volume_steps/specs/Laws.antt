-- What follows where files hold what is in memory.
use Rattle.std.specs.Prelude.{◌≡◌, ◌⊎◌, ◌↔◌, ℕ, max, List, fold}
use Rattle.m3_model.specs.Answers.{HasPoint}
use Rattle.m3_model.specs.Contents.{Contents, raised, content_of}
use Rattle.m3_model.specs.Members.{IsIn}
use Rattle.m3_model.specs.declared.point.Point.{Point}
use Rattle.shard_files.specs.m3_outside.Files.{Files}
use Rattle.shard_files.specs.m3_outside.DiskState.{DiskState, Told, EachImage}
use Rattle.shard_files.specs.commit_log.LogEnd.{NoneAbove, NoneFrom, MayBeginSegment}
use Rattle.shard_files.specs.commit_log.Segment.{segment, Adds}
use Rattle.shard_files.specs.declared.entries.LogEntry.{LogEntry}
use Rattle.shard_files.specs.Entries.{IsEntry}
use Rattle.shard_files.specs.HeldEntries.{points_in, tenure_in, fence_in}
use Rattle.shard_files.specs.Parts.{KnownVolume, VolumeHolds}
use Rattle.shard_files.specs.FilesHold.{volume_points}
use Rattle.shard_files.specs.Keeps.{Sheds}
use Rattle.volume_steps.specs.Known.{HoldsKnown, HaveContent}
use Rattle.volume_steps.specs.KnownLists.{with_volume}

-- a known volume is there for reads, too
abbrev pub KnownAreThere : {D : Type 0} → (D → DiskState) → Type 0
KnownAreThere {D} state =
    (d : D) (memory : Contents) (known : List KnownVolume) (tenure fence : ℕ) → EachImage (state d) (HoldsKnown memory known tenure fence)
    → (k : KnownVolume) → IsIn known k → Told (state d) (VolumeHolds k.head k.rows)

-- with fewer points in memory the files hold what is there still
abbrev pub HoldWithFewer : Type 0
HoldWithFewer =
    (memory fewer : Contents) (known : List KnownVolume) (tenure fence : ℕ) (files : Files) → HoldsKnown memory known tenure fence files
    → ((p : Point) → HasPoint fewer p → HasPoint memory p) → HoldsKnown fewer known tenure fence files

-- the join of what is in memory with the points of volumes is there
abbrev pub JoinIsThere : Type 0
JoinIsThere = (memory : Contents) (known : List KnownVolume) → HaveContent memory known (fold raised memory (volume_points known))

-- points that make up the content which is kept make it up still
abbrev pub ShedsMakeUp : Type 0
ShedsMakeUp = (content : Contents) (before points : List Point) → content_of before ≡ content → Sheds content before points → content_of points ≡ content

-- one volume more is that one and those from before
abbrev pub OneMoreKnown : Type 0
OneMoreKnown = (k j : KnownVolume) (known : List KnownVolume) → IsIn (with_volume k known) j ↔ ((j ≡ k) ⊎ IsIn known j)

-- What the log's steps do to files that hold what is in memory: a segment that begins leaves it, and an entry brings its points to what is in memory, and its
-- tenure and its fence where they are greater.
pub record LogStepsKeep : Type 0 where
  pub begins : (number : ℕ) (memory : Contents) (known : List KnownVolume) (tenure fence : ℕ) (x y : Files) → NoneFrom number x → MayBeginSegment number x y → HoldsKnown memory known tenure fence x → HoldsKnown memory known tenure fence y
  pub adds : (e : LogEntry) (bytes : List ℕ) (number : ℕ) (memory : Contents) (known : List KnownVolume) (tenure fence : ℕ) (x y : Files) → IsEntry bytes e → NoneAbove number x → Adds (segment number) bytes x y
      → HoldsKnown memory known tenure fence x → HoldsKnown (fold raised memory (points_in e)) known (max tenure (tenure_in e)) (max fence (fence_in e)) y
