-- What is in memory of a store, and what stands of it in the log and in volumes.
use Rattle.std.specs.Prelude.{◌≡◌, ℕ, ◌≤◌, List, None, fold}
use Rattle.m3_model.specs.Contents.{Contents, raised}
use Rattle.m3_outside.specs.DiskState.{DiskState, EachImage}
use Rattle.joined_reads.specs.listed_volumes.block_buffer.Held.{InMemory}
use Rattle.joined_reads.specs.listed_volumes.block_buffer.Joins.{joined}
use Rattle.joined_reads.specs.listed_volumes.commit_log.LogEnd.{LogEnd, LogEndStands}
use Rattle.joined_reads.specs.listed_volumes.shard_files.HeldEntries.{points_in}
use Rattle.joined_reads.specs.listed_volumes.shard_files.Parts.{KnownVolume}
use Rattle.joined_reads.specs.listed_volumes.shard_files.FilesHold.{volume_points}
use Rattle.joined_reads.specs.listed_volumes.shard_files.declared.entries.LogEntry.{LogEntry}
use Rattle.snapshot_steps.specs.volume_steps.Known.{HoldsKnown}

-- what is in memory, joined with the points of these volumes
abbrev pub joined_with : Contents → List KnownVolume → Contents
joined_with buffered known = joined buffered (volume_points known)

-- The log ends on the disk where it says. In the files that a stop leaves just the known volumes count, and each point in memory stands in the newest snapshot
-- or in the log. No put is under way, and a tenure is a fence too.
pub record IsKeptOn (log : LogEnd) (memory : InMemory) (known : List KnownVolume) (tenure fence : ℕ) (d : DiskState) : Type 0 where
  pub stands : LogEndStands log d
  pub exact : EachImage d (HoldsKnown memory.points known tenure fence)
  pub at_rest : memory.room ≡ None
  pub order : tenure ≤ fence

-- what is in memory, joined with the points of an entry
abbrev pub memory_with : LogEntry → InMemory → InMemory
memory_with e memory = record memory { points = fold raised memory.points (points_in e) }
