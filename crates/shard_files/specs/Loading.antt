-- What is found of the entries in files, or why none are.
use Rattle.std.specs.Prelude.{◌≡◌, ⊤, ℕ, List, ◌++◌, map, length, Option}
use Rattle.commit_log.specs.m3_model.declared.limits.TheConstants.{SEGMENT_BYTES}
use Rattle.commit_log.specs.m3_outside.Files.{Files}
use Rattle.commit_log.specs.m3_outside.declared.disk_err.DiskErr.{DiskErr}
use Rattle.commit_log.specs.m3_outside.declared.disk_err.DiskErr.TheVariants as disk
use Rattle.commit_log.specs.Contents.{numbers, PartsHold}
use Rattle.commit_log.specs.Segment.{segment, ReadsChunks}
use Rattle.shard_files.specs.declared.entries.LogEntry.{LogEntry}
use Rattle.shard_files.specs.declared.entries.EntryErr.{EntryErr}
use Rattle.shard_files.specs.declared.entries.EntryErr.TheVariants as refused
use Rattle.shard_files.specs.Entries.{spelled, AreWithin}
use Rattle.commit_log.specs.wire_bytes.Snapshots.{Snapshot}
use Rattle.shard_files.specs.Parts.{KnownVolume, VolumesAre, NewestIs}
use Rattle.shard_files.specs.Damage.{Damage, OfForm, OfDigest, FirstFound, FirstStop, BreaksSegment, FirstDamage}
use Rattle.shard_files.specs.declared.load_err.LoadErr.{LoadErr}
use Rattle.shard_files.specs.declared.load_err.LoadErr.TheVariants as failures

abbrev pub of_disk : DiskErr → LoadErr
of_disk disk.Failed = failures.Disk
of_disk disk.Memory = failures.Memory

-- the entries of a segment with these bytes came behind those before
pub record ReadsEntries (bytes : List ℕ) (old new : List LogEntry) : Type 0 where
  pub entries : List LogEntry
  pub is : new ≡ old ++ entries
  pub within : AreWithin entries
  pub long : length bytes ≡ SEGMENT_BYTES
  pub reads : ReadsChunks (map spelled entries) bytes

-- the first offset at which these bytes stop to be a segment of entries is this one; memory may always be wanted
abbrev pub MayStop : List ℕ → EntryErr → Type 0
MayStop bytes refused.Memory = ⊤
MayStop bytes (refused.Form at) = FirstStop bytes at

-- this damage is told; a fault has its own cause, and memory may always be wanted
abbrev pub Tells : (Damage → Type 0) → LoadErr → Type 0
Tells P failures.Disk = ⊤
Tells P failures.Memory = ⊤
Tells P (failures.Digest name kept found) = P (OfDigest name kept found)
Tells P (failures.Form name at) = P (OfForm name at)

-- the same, of the segment of this number
abbrev pub in_segment : ℕ → EntryErr → LoadErr
in_segment number refused.Memory = failures.Memory
in_segment number (refused.Form at) = failures.Form (segment number) at

-- the entries of these segments came behind those before
pub record FindsEntries (ns : List ℕ) (files : Files) (old new : List LogEntry) : Type 0 where
  pub entries : List LogEntry
  pub is : new ≡ old ++ entries
  pub within : AreWithin entries
  pub has : PartsHold ns files (map spelled entries)

-- the lowest damaged segment, and the first offset at which it stops to be a segment of entries
abbrev pub LogTells : Files → Damage → Type 0
LogTells files damage = FirstFound (BreaksSegment files) (numbers files) damage

-- ---- a law

-- where the volumes that count and the newest snapshot are whole, the log's first damage is the first of all files
abbrev pub LogDamageIsFirst : Type 0
LogDamageIsFirst = (known : List KnownVolume) (newest : Option Snapshot) (damage : Damage) (files : Files) → VolumesAre known files → NewestIs newest files → LogTells files damage → FirstDamage files damage
