-- What contracts see of a disk in memory.
use Rattle.std.specs.Prelude.{◌≡◌}
use Rattle.m3_outside.specs.DiskState.{DiskState}
use Rattle.disk_content.specs.Contents.{Content}
use Rattle.mem_disk.specs.declared.disk.MemDisk.{MemDisk}
use Rattle.mem_disk.specs.Calls.{Calls}
use Rattle.disk_content.specs.Images.{disk_state}

-- what it holds now
abbrev pub content_of : MemDisk → Content
content_of d = d.now

-- which of its calls fail
abbrev pub calls_of : MemDisk → Calls
calls_of d = d.schedule

-- the state that every disk has
abbrev pub state_of : MemDisk → DiskState
state_of d = disk_state d.now d.past.items d.schedule.faults

-- files, synced files and pending writes are the same; there may be more room
pub record SameContent (old new : Content) : Type 0 where
  pub seen : new.seen ≡ old.seen
  pub synced : new.synced ≡ old.synced
  pub writes : new.pending.writes ≡ old.pending.writes
