-- Disks before `init`, and what their replicas begin with.
use Rattle.std.specs.Prelude.{◌≡◌, ◌≤◌, ℕ, ⊤, List, [], Err, IfOk}
use Rattle.std.specs.FinMap.{empty}
use Rattle.m3_model.specs.Members.{IsIn}
use Rattle.m3_model.specs.declared.reason.Damage.{Damage}
use Rattle.m3_model.specs.declared.reason.Reason.TheVariants as reason
use Rattle.m3_outside.specs.Depots.{Depot, TellAll}
use Rattle.m3_outside.specs.DiskState.{DiskState, EachImage}
use Rattle.m3_outside.specs.Files.{Files}
use Rattle.m3_outside.specs.Slots.{Held, Unused, Here, Out}
use Rattle.m3_outside.specs.declared.disk.Disk.{Ghosts}
use Rattle.m3_outside.specs.declared.slot.DiskSlot.{DiskSlot}
use Rattle.cluster_members.specs.shard_files.FilesHold.{FilesHold}
use Rattle.cluster_members.specs.declared.members.Members.{Members}
use Rattle.first_cluster.specs.Begins.{Said}
use Rattle.first_cluster.specs.First.{IsFirst}
use Rattle.first_cluster.specs.Lending.{HasReturned}
use Rattle.first_cluster.specs.Slots.{starts_of}
use Rattle.first_cluster.specs.declared.start.Start.{Start}

-- the files have no points, and at most the first tenure, which is a fence too
pub record HasNoPoints (files : Files) : Type 0 where
  pub tenure : ℕ
  pub fence : ℕ
  pub held : FilesHold [] tenure fence files
  pub order : tenure ≤ fence
  pub first : fence ≤ 1

-- a disk that lies in the slot has no points, whatever a stop leaves
abbrev pub IsBare : {D : Type 0} → (D → DiskState) → Held D → Type 0
IsBare state Unused = ⊤
IsBare state (Here disk) = EachImage (state disk) HasNoPoints
IsBare state Out = ⊤

-- each slot's is so
abbrev pub AreBare : {D : Type 0} → (D → DiskState) → (DiskSlot → Held D) → Type 0
AreBare state held = (disk_slot : DiskSlot) → IsBare state (held disk_slot)

-- where it began, its tenure is its fence and it has no points; and it isn't refused as not owned, nor for damage
pub record BeginsBare (start : Start) (said : Said) : Type 0 where
  pub fence : IfOk said (λ began. (began.fence ≡ start.tenure) × (began.points ≡ []))
  pub owned : ¬ (said ≡ Err reason.NotOwned)
  pub sound : (damage : Damage) → ¬ (said ≡ Err (reason.Corrupt damage))

-- so does each replica of a first cluster over bare disks that tell
abbrev pub FirstBeginsBare : {D : Type 0} {G : Ghosts D} → (D → DiskState) → Members D G → Type 0
FirstBeginsBare {D} {G} state m =
    (rf shards seed : ℕ) (nodes : List (List ℕ × List ℕ)) (old new : Depot D) → TellAll state → AreBare state old.held → (first : IsFirst state rf shards seed nodes old new m)
    → (start : Start) → IsIn (starts_of m.net.state.place) start → BeginsBare start (first.opened.begun.said start.slot)

-- bare disks that a refused `init` gave back are bare
abbrev pub ReturnedBare : {D : Type 0} → (D → DiskState) → Type 0
ReturnedBare {D} state = (old new : Depot D) → TellAll state → AreBare state old.held → HasReturned state old empty new → AreBare state new.held
