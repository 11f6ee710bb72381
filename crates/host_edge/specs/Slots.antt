-- What contracts see of the disks of a folder.
use Rattle.m3_outside.specs.Depots.{Depot}
use Rattle.disk_slots.specs.Slots.{depot_of as depot_in}
use Rattle.host_edge.specs.Silent.{FileDiskState, silent}
use Rattle.host_edge.specs.declared.file_disks.FileDisks.{FileDisks}

-- what lies in each slot, how many faults of its disk are counted, and the count of all faults
abbrev pub depot_of : FileDisks → Depot FileDiskState
depot_of d = depot_in silent d.slots
