-- What contracts see of a set of slots.
use Rattle.m3_outside.specs.Depots.{Depot}
use Rattle.m3_outside.specs.DiskState.{DiskState}
use Rattle.disk_slots.specs.declared.slots.DiskSlots.{DiskSlots}
use Rattle.disk_slots.specs.SlotStates.{held_at, counted_at}

-- what lies in each slot, how many faults of its disk are counted, and the count of all faults
abbrev pub depot_of : {D : Type 0} → (D → DiskState) → DiskSlots D → Depot D
depot_of state d = record { held = held_at d.slots.items; counted = counted_at state d.slots.items; faults = d.faults }
