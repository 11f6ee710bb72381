-- Replicas made over the disks of further slots, and disks given back as they were.
use Rattle.std.specs.Prelude.{◌≡◌, ◌≤◌, ⊤, List, ◌∷◌, ◌++◌, Some, None}
use Rattle.std.specs.FinMap.{get}
use Rattle.m3_model.specs.Members.{IsIn}
use Rattle.m3_outside.specs.Causes.{Rose}
use Rattle.m3_outside.specs.Depots.{Depot}
use Rattle.m3_outside.specs.DiskState.{DiskState}
use Rattle.m3_outside.specs.Slots.{Held, Out}
use Rattle.m3_outside.specs.declared.slot.DiskSlot.{DiskSlot}
use Rattle.node_calls.specs.replica_exchange.declared.member.Member.{Member}
use Rattle.node_calls.specs.replica_exchange.declared.slot.Slot.{Slot}
use Rattle.node_calls.specs.replica_calls.Slots.{MemberMap}
use Rattle.first_cluster.specs.Depots.{disk_slot_of}
use Rattle.first_cluster.specs.Lending.{IsKept, IsLeftAt, IsNewlyTaken, IsReturned, IsSameAt}
use Rattle.cluster_placements.specs.declared.untaken.Untaken.{Untaken}
use Rattle.cluster_placements.specs.declared.untaken.Untaken.TheVariants as untaken

-- ---- disks that are where they were

-- The disk of each of these slots lies where it lay, or was taken and is back; at all others all is as it was. The count of faults didn't fall.
pub record HaveReturned {D : Type 0} (state : D → DiskState) (slots : List Slot) (old new : Depot D) : Type 0 where
  pub each : (s : Slot) → IsIn slots s → IsLeftAt state old new s
  pub others : (s : Slot) → ¬ IsIn slots s → IsSameAt old new s
  pub later : old.faults ≤ new.faults

-- The disks of these slots were to be taken, and that of this one couldn't be, since a fault of the disks' own came: the disks of the slots before it were taken
-- and are back, and those of all others weren't touched.
pub record IsUntakenAt {D : Type 0} (state : D → DiskState) (slots : List Slot) (old new : Depot D) (slot : Slot) : Type 0 where
  pub first : List Slot
  pub rest : List Slot
  pub parts : slots ≡ first ++ slot ∷ rest
  pub back : (s : Slot) → IsIn first s → IsReturned state old new s
  pub others : (s : Slot) → ¬ IsIn first s → IsSameAt old new s
  pub later : old.faults ≤ new.faults
  pub rose : Rose old.faults new.faults

-- why the disks of these slots weren't all taken: one couldn't be, or memory was wanted
abbrev pub MayNotTake : {D : Type 0} → (D → DiskState) → List Slot → Depot D → Depot D → Untaken → Type 0
MayNotTake state slots old new (untaken.Disk slot) = IsUntakenAt state slots old new slot
MayNotTake state slots old new untaken.Memory = ⊤

-- ---- disks taken

-- the disks of all replicas are out
abbrev pub AreLent : {D : Type 0} → MemberMap D → (DiskSlot → Held D) → Type 0
AreLent {D} members held = (s : Slot) (m : Member D) → get members s ≡ Some m → held (disk_slot_of s) ≡ Out

-- these slots' disks were taken, with a replica over each that wasn't begun yet; at all other slots all is as before
pub record HaveGained {D : Type 0} (state : D → DiskState) (slots : List Slot) (old : Depot D) (before : MemberMap D) (new : Depot D) (members : MemberMap D) : Type 0 where
  pub gained : (s : Slot) → IsIn slots s → IsNewlyTaken state old members new s
  pub others : (s : Slot) → ¬ IsIn slots s → IsKept old before new members s
  pub later : old.faults ≤ new.faults

-- what is left at a slot whose disk wasn't taken: nothing changed where a fault came, and for want of memory it may be back
abbrev pub IsLeftBy : {D : Type 0} → (D → DiskState) → Depot D → Depot D → Slot → Untaken → Type 0
IsLeftBy state old new s (untaken.Disk slot) = (slot ≡ s) × IsSameAt old new s × Rose old.faults new.faults
IsLeftBy state old new s untaken.Memory = IsLeftAt state old new s

-- The first of them were, that of the next one wasn't, and at all other slots all is as before.
pub record MayHaveGained {D : Type 0} (state : D → DiskState) (slots : List Slot) (old : Depot D) (before : MemberMap D) (new : Depot D) (members : MemberMap D) (why : Untaken) : Type 0 where
  pub first : List Slot
  pub at : Slot
  pub rest : List Slot
  pub parts : slots ≡ first ++ at ∷ rest
  pub gained : (s : Slot) → IsIn first s → IsNewlyTaken state old members new s
  pub none : get members at ≡ None
  pub left : IsLeftBy state old new at why
  pub others : (s : Slot) → ¬ IsIn first s → ¬ (s ≡ at) → IsKept old before new members s
  pub later : old.faults ≤ new.faults
