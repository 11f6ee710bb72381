-- What lies in the slots of a set of disks.
use Rattle.std.specs.Prelude.{◌≡◌, ℕ, ◌+◌, ◌*◌, ◌&&◌, true, nat_eq, nat_lt, if◌then◌else◌, List, [], ◌∷◌, Option, Some, None, slice_get, is_some}
use Rattle.m3_model.specs.declared.limits.TheConstants.{MOST_NODES, MOST_SHARDS}
use Rattle.m3_outside.specs.DiskState.{DiskState}
use Rattle.m3_outside.specs.declared.slot.DiskSlot.{DiskSlot}
use Rattle.m3_outside.specs.Slots.{Held, Unused, Here, Out}
use Rattle.disk_slots.specs.declared.slot_state.SlotState.{SlotState}
use Rattle.disk_slots.specs.declared.slot_state.SlotState.TheVariants.{Empty, Full, Lent}

-- the position of the meta disk, behind those of all nodes and shards
abbrev pub meta_position : ℕ
meta_position = MOST_NODES * MOST_SHARDS

-- the position of a slot: of a node below 16 and a shard below 64, or of the meta disk
abbrev pub position_of : DiskSlot → Option ℕ
position_of s = if nat_lt s.node MOST_NODES && nat_lt s.shard MOST_SHARDS then Some (s.node * MOST_SHARDS + s.shard) else if nat_eq s.node 255 && nat_eq s.shard 4294967295 then Some meta_position else None

-- there is such a slot
abbrev pub HasSlot : DiskSlot → Type 0
HasSlot s = is_some (position_of s) ≡ true

-- what lies in a slot
abbrev pub held_in : {D : Type 0} → Option (SlotState D) → Held D
held_in None = Unused
held_in (Some Empty) = Unused
held_in (Some (Full disk)) = Here disk
held_in (Some (Lent faults)) = Out

-- how many faults of the slot's disk are counted
abbrev pub counted_in : {D : Type 0} → (D → DiskState) → Option (SlotState D) → ℕ
counted_in state None = 0
counted_in state (Some Empty) = 0
counted_in state (Some (Full disk)) = (state disk).faults
counted_in state (Some (Lent faults)) = faults

-- a disk lies there
abbrev pub full : {D : Type 0} → D → SlotState D
full disk = Full disk

-- the disk that lies there
abbrev pub disk_in : {D : Type 0} → Held D → Option D
disk_in Unused = None
disk_in (Here disk) = Some disk
disk_in Out = None

-- no disk lies in any of them
abbrev pub AreEmpty : {D : Type 0} → List (SlotState D) → Type 0
AreEmpty [] = Unit {0}
AreEmpty (p ∷ ps) = (p ≡ Empty) × AreEmpty ps

abbrev pub at_position : {D : Type 0} → List (SlotState D) → Option ℕ → Option (SlotState D)
at_position slots None = None
at_position slots (Some i) = slice_get slots i

-- what lies in a slot, and how many faults of its disk are counted
abbrev pub held_at : {D : Type 0} → List (SlotState D) → DiskSlot → Held D
held_at slots s = held_in (at_position slots (position_of s))

abbrev pub counted_at : {D : Type 0} → (D → DiskState) → List (SlotState D) → DiskSlot → ℕ
counted_at state slots s = counted_in state (at_position slots (position_of s))
