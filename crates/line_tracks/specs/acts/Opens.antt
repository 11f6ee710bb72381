-- With what slots first begin: what is so of the disks of slots that never began, so that no first begin is refused as not owned, nor leaves a higher fence. And whose machine doesn't own a tenure.
use Rattle.std.specs.Prelude.{◌≡◌, ◌⊎◌, ◌≤◌, ℕ, List, [], Option, Some, Bool, true}
use Rattle.std.specs.FinMap as finite
use Rattle.m3_model.specs.Members.{IsIn}
use Rattle.m3_model.specs.declared.placement.Placement.{Placement}
use Rattle.m3_model.specs.declared.point.Point.{Point}
use Rattle.m3_model.specs.declared.rules.MetaState.{MetaState}
use Rattle.m3_outside.specs.Depots.{TellAll}
use Rattle.m3_outside.specs.DiskState.{DiskState, EachImage, IsLawfulDisk}
use Rattle.m3_outside.specs.Files.{Files}
use Rattle.node_calls.specs.shard_files.FilesHold.{FilesHold}
use Rattle.cluster_core.specs.Earlier.{last_place}
use Rattle.cluster_core.specs.Replicas.{replica}
use Rattle.cluster_core.specs.declared.event.Event.{Event}
use Rattle.node_calls.specs.replica_machine.Boots.{MayBeUnowned}
use Rattle.node_calls.specs.replica_exchange.MachineCalls.{IsMemberOf}
use Rattle.node_calls.specs.replica_exchange.declared.member.Member.{Member}
use Rattle.node_calls.specs.replica_exchange.declared.slot.Slot.{Slot}
use Rattle.node_calls.specs.replica_calls.Calls.{AreMembersOf, Tracked}
use Rattle.node_calls.specs.replica_calls.Slots.{MemberMap}
use Rattle.told_runs.specs.told_by.Makes.{IsAssigned}
use Rattle.transcripts.specs.Moves.{IsLeftFence}

-- the placement that stands gives the node the shard with this tenure
abbrev pub IsGivenNow : List Event → ℕ → ℕ → ℕ → Type 0
IsGivenNow events n s tenure = (place : Placement) × (last_place events ≡ Some place) × IsAssigned place n s tenure

-- the files are sound, their tenure isn't above this one, and their fence isn't but where an earlier run may have left it
pub record IsLow (start : Option MetaState) (tenure : ℕ) (files : Files) : Type 0 where
  pub points : List Point
  pub held_tenure : ℕ
  pub fence : ℕ
  pub held : FilesHold points held_tenure fence files
  pub not_higher : held_tenure ≤ tenure
  pub fenced : (fence ≤ tenure) ⊎ IsLeftFence start fence

-- Of each slot that never began: the files over which its machine was made are low for the tenure that the placement gives it, and no tenure above this one was
-- tried there. A slot of which no replica ever began is one that a fault or damage kept from it at `init`, or that an earlier run left.
pub record OpensLow {D : Type 0} (state : D → DiskState) (start : Option MetaState) (replicas : Tracked D) : Type 0 where
  pub files : (s : Slot) (m : Member D) → finite.get replicas.members s ≡ Some m → (replica s.node s.shard replicas.events).begun ≡ []
      → (tenure : ℕ) → IsGivenNow replicas.events s.node s.shard tenure → EachImage (state (m.first).value) (IsLow start tenure)
  pub tried : (n s own : ℕ) → (replica n s replicas.events).begun ≡ [] → IsIn (replica n s replicas.events).tried own → (tenure : ℕ) → IsGivenNow replicas.events n s tenure → own ≤ tenure

-- what is known of disks, and of the machines over them; where the disks tell, slots open low
pub record MayOpenSlots {D : Type 0} (state : D → DiskState) (tells : Bool) (start : Option MetaState) (replicas : Tracked D) : Type 0 where
  pub disks : (d : D) → IsLawfulDisk (state d)
  pub tell : tells ≡ true → TellAll state
  pub members : AreMembersOf state replicas
  pub low : tells ≡ true → OpensLow state start replicas

-- the machine that is the slot's replica after these events, made over its first disk, doesn't own the tenure: it began a higher one, or its files hold one
pub record IsTenureUnowned {D : Type 0} (state : D → DiskState) (members : MemberMap D) (slot : Slot) (past : List Event) (tenure : ℕ) : Type 0 where
  pub was : Member D
  pub there : finite.get members slot ≡ Some was
  pub now : Member D
  pub is : IsMemberOf state slot past now
  pub first : now.first ≡ was.first
  pub unowned : MayBeUnowned state tenure now.machine
