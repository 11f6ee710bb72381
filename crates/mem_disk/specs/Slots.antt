-- What contracts see of a set of disks in memory.
use Rattle.std.specs.Prelude.{ℕ}
use Rattle.m3_outside.specs.Depots.{Depot}
use Rattle.m3_outside.specs.declared.slot.DiskSlot.{DiskSlot}
use Rattle.m3_outside.specs.Slots.{Held}
use Rattle.disk_slots.specs.Slots.{depot_of as depot_in}
use Rattle.mem_disk.specs.declared.disk.MemDisk.{MemDisk}
use Rattle.mem_disk.specs.declared.disks.MemDisks.{MemDisks}
use Rattle.mem_disk.specs.Parts.{state_of}

-- what lies in each slot, how many faults of its disk are counted, and the count of all faults
abbrev pub depot_of : MemDisks → Depot MemDisk
depot_of d = depot_in state_of d.slots

-- what lies in a slot
abbrev pub held_of : MemDisks → DiskSlot → Held MemDisk
held_of d = (depot_of d).held

-- how many faults of a slot's disk are in the count of all
abbrev pub counted_of : MemDisks → DiskSlot → ℕ
counted_of d = (depot_of d).counted

-- the count of all faults
abbrev pub faults_of : MemDisks → ℕ
faults_of d = (depot_of d).faults
