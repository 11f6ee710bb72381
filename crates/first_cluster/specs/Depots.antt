-- Which disks of a run the replicas of a cluster have.
use Rattle.std.specs.Prelude.{◌≡◌, ◌≢◌, ◌+◌, ◌-◌, ◌^◌, ℕ, ⊤, List, [], ◌∷◌, Option, Some, None}
use Rattle.std.specs.FinMap.{get}
use Rattle.m3_model.specs.Members.{IsIn}
use Rattle.m3_outside.specs.Causes.{RoseBy}
use Rattle.m3_outside.specs.Depots.{Depot}
use Rattle.m3_outside.specs.DiskState.{DiskState}
use Rattle.m3_outside.specs.Slots.{Held, Out}
use Rattle.m3_outside.specs.declared.disk.Disk.{Ghosts}
use Rattle.m3_outside.specs.declared.slot.DiskSlot.{DiskSlot}
use Rattle.cluster_members.specs.replica_exchange.declared.member.Member.{Member}
use Rattle.cluster_members.specs.replica_exchange.declared.slot.Slot.{Slot}
use Rattle.cluster_members.specs.replica_calls.Slots.{MemberMap}
use Rattle.cluster_members.specs.declared.members.Members.{Members}
use Rattle.first_cluster.specs.Slots.{AreApart}

-- the slot of a replica's disk
abbrev pub disk_slot_of : Slot → DiskSlot
disk_slot_of s = record { node = s.node; shard = s.shard }

-- the slot of the meta disk
abbrev pub meta_slot : DiskSlot
meta_slot = record { node = 255; shard = 2 ^ 32 - 1 }

-- any other slot
abbrev pub IsForReplicas : DiskSlot → Type 0
IsForReplicas disk_slot = disk_slot ≢ meta_slot

-- replicas stand at these slots alone; their disks are out, and those of all other slots are not, but the meta disk may be
pub record AreOut {D : Type 0} (slots : List Slot) (members : MemberMap D) (held : DiskSlot → Held D) : Type 0 where
  pub only : (s : Slot) → ¬ IsIn slots s → get members s ≡ None
  pub lent : (s : Slot) (m : Member D) → get members s ≡ Some m → held (disk_slot_of s) ≡ Out
  pub there : (s : Slot) → IsForReplicas (disk_slot_of s) → get members s ≡ None → held (disk_slot_of s) ≢ Out

-- before `init` no disk is out, but the meta disk may be
abbrev pub OwnedBy : {D : Type 0} {G : Ghosts D} → Option (Members D G) → (DiskSlot → Held D) → Type 0
OwnedBy None held = (disk_slot : DiskSlot) → IsForReplicas disk_slot → held disk_slot ≢ Out
OwnedBy (Some m) held = AreOut m.slots.items m.net.replicas.members held

-- the count of a slot's disk: where a replica has it, that of the disk, and else the one in the slot
abbrev pub count_at : {D : Type 0} → (D → DiskState) → Depot D → Option (Member D) → Slot → ℕ
count_at state depot None s = depot.counted (disk_slot_of s)
count_at state depot (Some member) s = (state member.machine.disk).faults

-- how much the counts of the disks of the replicas at these slots rose since they were taken
abbrev pub risen : {D : Type 0} → (D → DiskState) → Depot D → MemberMap D → List Slot → ℕ
risen state depot members [] = 0
risen state depot members (s ∷ slots) = (count_at state depot (get members s) s - depot.counted (disk_slot_of s)) + risen state depot members slots

-- the count of all faults rises by as much as those of the members' disks rose since they were taken
abbrev pub RisesBy : {D : Type 0} {G : Ghosts D} → (D → DiskState) → Depot D → Option (Members D G) → ℕ → Type 0
RisesBy state depot None faults = ⊤
RisesBy state depot (Some m) faults = AreApart m.slots.items → RoseBy (risen state depot m.net.replicas.members m.slots.items) depot.faults faults
