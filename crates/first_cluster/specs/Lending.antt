-- Disks taken for replicas, and given back.
use Rattle.std.specs.Prelude.{◌≡◌, ◌≢◌, ◌⊎◌, ℕ, ◌≤◌, List, [], ◌∷◌, Some, None, Result, Ok, Err}
use Rattle.std.specs.FinMap.{get, empty}
use Rattle.m3_model.specs.Members.{IsIn}
use Rattle.m3_outside.specs.Causes.{Rose, RoseBy}
use Rattle.m3_outside.specs.Depots.{Depot}
use Rattle.m3_outside.specs.DiskState.{DiskState, IsEmpty}
use Rattle.m3_outside.specs.Slots.{Held, Here, Out, MayGive}
use Rattle.m3_outside.specs.declared.slot.DiskSlot.{DiskSlot}
use Rattle.cluster_members.specs.cluster_core.declared.event.Event.{Event}
use Rattle.cluster_members.specs.cluster_core.declared.event.StepCall.TheVariants as call
use Rattle.cluster_members.specs.cluster_core.declared.event.StepReply.{StepReply}
use Rattle.cluster_members.specs.replica_exchange.declared.member.Member.{Member}
use Rattle.cluster_members.specs.replica_exchange.declared.slot.Slot.{Slot}
use Rattle.cluster_members.specs.replica_calls.Calls.{Tracked, first_member}
use Rattle.cluster_members.specs.replica_calls.Slots.{MemberMap}
use Rattle.cluster_members.specs.session_net.Runs.{Step, IsStepped}
use Rattle.first_cluster.specs.Begins.{HaveBegun}
use Rattle.first_cluster.specs.Depots.{disk_slot_of, risen}
use Rattle.first_cluster.specs.Slots.{AreApart}
use Rattle.first_cluster.specs.declared.start.Start.{Start}
use Rattle.first_cluster.specs.declared.unopened.Unopened.{Unopened}
use Rattle.first_cluster.specs.declared.unopened.Unopened.TheVariants as unopened

-- ---- slots

-- the first placement gives each replica this tenure
abbrev pub first_tenure : ℕ
first_tenure = 1

-- a begin with it that was replied to so
abbrev pub first_begin : StepReply → Step
first_begin answered = record { call = call.Begin first_tenure; reply = answered }

-- a replica over the disk that its slot gave, begun once with the first tenure or not at all
pub record IsOpened {D : Type 0} (state : D → DiskState) (depot : Depot D) (s : Slot) (m : Member D) : Type 0 where
  pub disk : D
  pub given : MayGive (λ d. IsEmpty (state d)) (depot.held (disk_slot_of s)) disk
  pub counted : (state disk).faults ≡ depot.counted (disk_slot_of s)
  pub begun : (m ≡ first_member disk) ⊎ ((answer : StepReply) × IsStepped state (first_begin answer ∷ []) (Some (first_member disk)) (Some m))

-- nothing was done at the slot
pub record IsUntouched {D : Type 0} (old : Depot D) (members : MemberMap D) (new : Depot D) (s : Slot) : Type 0 where
  pub no_member : get members s ≡ None
  pub held : new.held (disk_slot_of s) ≡ old.held (disk_slot_of s)
  pub counted : new.counted (disk_slot_of s) ≡ old.counted (disk_slot_of s)

-- its disk is out, and a replica stands over it
pub record IsLent {D : Type 0} (state : D → DiskState) (old : Depot D) (members : MemberMap D) (new : Depot D) (s : Slot) : Type 0 where
  pub member : Member D
  pub stands : get members s ≡ Some member
  pub opened : IsOpened state old s member
  pub held : new.held (disk_slot_of s) ≡ Out
  pub counted : new.counted (disk_slot_of s) ≡ old.counted (disk_slot_of s)

-- its disk was taken and given back
pub record IsGivenBack {D : Type 0} (state : D → DiskState) (old : Depot D) (members : MemberMap D) (new : Depot D) (s : Slot) : Type 0 where
  pub member : Member D
  pub no_member : get members s ≡ None
  pub opened : IsOpened state old s member
  pub held : new.held (disk_slot_of s) ≡ Here member.machine.disk
  pub counted : new.counted (disk_slot_of s) ≡ (state member.machine.disk).faults

-- no disk is out: each slot's was given back, or wasn't taken
pub record HasReturned {D : Type 0} (state : D → DiskState) (old : Depot D) (members : MemberMap D) (new : Depot D) : Type 0 where
  pub each : (s : Slot) → IsUntouched old members new s ⊎ IsGivenBack state old members new s
  pub later : old.faults ≤ new.faults

-- a disk of one of the slots couldn't be taken, since a fault of the disks' own came, or memory was wanted
abbrev pub MayNotOpen : {D : Type 0} → List Slot → Depot D → Depot D → Unopened → Type 0
MayNotOpen slots old new (unopened.Disk slot) = IsIn slots slot × Rose old.faults new.faults
MayNotOpen slots old new unopened.Memory = Unit {0}

-- ---- disks taken

-- the slot's disk isn't out, and the slot has no replica
pub record IsFree {D : Type 0} (held : DiskSlot → Held D) (members : MemberMap D) (s : Slot) : Type 0 where
  pub not_out : held (disk_slot_of s) ≢ Out
  pub no_member : get members s ≡ None

-- at the slot all is as before
pub record IsKept {D : Type 0} (old : Depot D) (members : MemberMap D) (new : Depot D) (left : MemberMap D) (s : Slot) : Type 0 where
  pub member : get left s ≡ get members s
  pub held : new.held (disk_slot_of s) ≡ old.held (disk_slot_of s)
  pub counted : new.counted (disk_slot_of s) ≡ old.counted (disk_slot_of s)

-- at all other slots it is, and the count of faults doesn't fall
pub record KeepsOthers {D : Type 0} (slot : Slot) (old : Depot D) (members : MemberMap D) (new : Depot D) (left : MemberMap D) : Type 0 where
  pub others : (s : Slot) → ¬ (s ≡ slot) → IsKept old members new left s
  pub later : old.faults ≤ new.faults

-- the slot's disk is out, and a replica stands over it, which wasn't begun yet
pub record IsNewlyTaken {D : Type 0} (state : D → DiskState) (old : Depot D) (members : MemberMap D) (new : Depot D) (s : Slot) : Type 0 where
  pub disk : D
  pub given : MayGive (λ d. IsEmpty (state d)) (old.held (disk_slot_of s)) disk
  pub disk_faults : (state disk).faults ≡ old.counted (disk_slot_of s)
  pub stands : get members s ≡ Some (first_member disk)
  pub held : new.held (disk_slot_of s) ≡ Out
  pub counted : new.counted (disk_slot_of s) ≡ old.counted (disk_slot_of s)

-- each of these slots has such a replica, and nothing was done at all others
pub record HasTaken {D : Type 0} (state : D → DiskState) (slots : List Slot) (old : Depot D) (members : MemberMap D) (new : Depot D) : Type 0 where
  pub taken : (s : Slot) → IsIn slots s → IsNewlyTaken state old members new s
  pub others : (s : Slot) → ¬ IsIn slots s → IsUntouched old members new s
  pub later : old.faults ≤ new.faults

-- the slot's disk was taken; or it wasn't, or is back
abbrev pub IsDiskTaken : {D : Type 0} → (D → DiskState) → Slot → Depot D → Depot D → MemberMap D → Result Unit Unopened → Type 0
IsDiskTaken state slot old new members (Ok u) = IsNewlyTaken state old members new slot
IsDiskTaken state slot old new members (Err why) = (IsUntouched old members new slot ⊎ IsGivenBack state old members new slot) × MayNotOpen (slot ∷ []) old new why

-- some of these slots have a replica over their disk, the disks of others are back, and nothing was done at all others; and why no more were lent
pub record MayHaveTaken {D : Type 0} (state : D → DiskState) (slots : List Slot) (old : Depot D) (members : MemberMap D) (new : Depot D) (why : Unopened) : Type 0 where
  pub each : (s : Slot) → IsUntouched old members new s ⊎ ((IsIn slots s × IsLent state old members new s) ⊎ IsGivenBack state old members new s)
  pub later : old.faults ≤ new.faults
  pub cause : MayNotOpen slots old new why

-- no disk is out, and why no cluster was made
pub record IsUnopened {D : Type 0} (state : D → DiskState) (slots : List Slot) (old new : Depot D) (why : Unopened) : Type 0 where
  pub returned : HasReturned state old empty new
  pub cause : MayNotOpen slots old new why

-- The disks of the slots were taken, with a replica over each; and with these events before them the replicas of the starts were begun.
pub record AreOpened {D : Type 0} (state : D → DiskState) (slots : List Slot) (starts : List Start) (events : List Event) (old new : Depot D) (replicas : Tracked D) : Type 0 where
  pub made : MemberMap D
  pub taken : HasTaken state slots old made new
  pub begun : HaveBegun state starts (record { members = made; events = events }) replicas

-- ---- disks given back

-- the slot's replica is gone, and its disk lies in the slot
pub record IsBack {D : Type 0} (state : D → DiskState) (members : MemberMap D) (new : Depot D) (left : MemberMap D) (s : Slot) : Type 0 where
  pub member : Member D
  pub was : get members s ≡ Some member
  pub gone : get left s ≡ None
  pub held : new.held (disk_slot_of s) ≡ Here member.machine.disk
  pub counted : new.counted (disk_slot_of s) ≡ (state member.machine.disk).faults

-- the replicas of these slots are gone and their disks back, and all else is as before
pub record HasGivenBack {D : Type 0} (state : D → DiskState) (slots : List Slot) (old : Depot D) (members : MemberMap D) (new : Depot D) (left : MemberMap D) : Type 0 where
  pub each : (s : Slot) → IsKept old members new left s ⊎ IsBack state members new left s
  pub gone : (s : Slot) → IsIn slots s → get left s ≡ None
  pub others : (s : Slot) → ¬ IsIn slots s → get left s ≡ get members s
  pub later : old.faults ≤ new.faults
  pub rose : AreApart slots → RoseBy (risen state old members slots) old.faults new.faults

-- ---- disks that are as they were

-- the slot is as it was
pub record IsSameAt {D : Type 0} (old new : Depot D) (s : Slot) : Type 0 where
  pub held : new.held (disk_slot_of s) ≡ old.held (disk_slot_of s)
  pub counted : new.counted (disk_slot_of s) ≡ old.counted (disk_slot_of s)

-- the slot's disk was taken, and given back as it was
pub record IsReturned {D : Type 0} (state : D → DiskState) (old new : Depot D) (s : Slot) : Type 0 where
  pub disk : D
  pub given : MayGive (λ d. IsEmpty (state d)) (old.held (disk_slot_of s)) disk
  pub held : new.held (disk_slot_of s) ≡ Here disk
  pub counted : new.counted (disk_slot_of s) ≡ old.counted (disk_slot_of s)

-- its disk lies where it lay, or is back
abbrev pub IsLeftAt : {D : Type 0} → (D → DiskState) → Depot D → Depot D → Slot → Type 0
IsLeftAt state old new s = IsSameAt old new s ⊎ IsReturned state old new s

-- so all are, and the count of faults didn't fall
pub record AreAsTheyWere {D : Type 0} (state : D → DiskState) (old new : Depot D) : Type 0 where
  pub each : (s : Slot) → IsLeftAt state old new s
  pub later : old.faults ≤ new.faults
