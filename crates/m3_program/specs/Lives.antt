-- Disks that stand for the runs that were made on them: what these acknowledged is there, whatever a stop leaves, and nothing that they didn't send.
use Rattle.std.specs.Prelude.{◌≡◌, ◌≤◌, ℕ, List, [], ◌∷◌, Option, Some, None, slice_get}
use Rattle.m3_model.specs.Members.{IsIn}
use Rattle.m3_model.specs.declared.placement.Assignment.{Assignment}
use Rattle.m3_model.specs.declared.placement.Placement.{Placement}
use Rattle.m3_model.specs.declared.point.Point.{Point}
use Rattle.m3_model.specs.declared.rules.MetaState.{MetaState}
use Rattle.m3_outside.specs.Depots.{TellAll}
use Rattle.m3_outside.specs.DiskState.{DiskState}
use Rattle.m3_outside.specs.Files.{Files}
use Rattle.m3_outside.specs.Slots.{Held}
use Rattle.m3_outside.specs.declared.slot.DiskSlot.{DiskSlot}
use Rattle.shard_files.specs.FilesHold.{HoldWhole}
use Rattle.placement_core.specs.Shards.{Shard}
use Rattle.placement_log.specs.MetaHolds.{MetaHolds}
use Rattle.transcripts.specs.Left.{HeldAtOpening, OpeningStands}
use Rattle.transcripts.specs.Record.{Record}
use Rattle.life_ends.specs.Lies.{MayLie}
use Rattle.saved_cluster.specs.first_cluster.Depots.{IsForReplicas, meta_slot}
use Rattle.m3_program.specs.Saved.{MayBeLast}

-- ---- the state

-- Each run began with what the one before it left, or with the state to which that one's last request led, which got no reply; and the last left this one.
abbrev pub FollowsFrom : Option MetaState → List Record → Option MetaState → Type 0
FollowsFrom was [] state = was ≡ state
FollowsFrom was (run ∷ runs) state = (run.start ≡ was) × (next : Option MetaState) × MayBeLast run.start run.turns run.unanswered next × FollowsFrom next runs state

-- ---- a replica's slot

-- the tenure isn't above the version, nor above that with which the node has the shard
pub record IsLowFor (place : Placement) (node shard tenure : ℕ) : Type 0 where
  pub version : tenure ≤ place.version
  pub own : (assignments : Shard) → slice_get place.shards shard ≡ Some assignments → (a : Assignment) → IsIn assignments a → a.node ≡ node → tenure ≤ a.tenure

-- Where no state was saved the slot has no points, and at most the first tenure, which is a fence too; else its tenure is low for the placement, and its fence isn't above the version.
abbrev pub IsLowSlot : Option MetaState → ℕ → ℕ → List Point → ℕ → ℕ → Type 0
IsLowSlot None node shard points tenure fence = (points ≡ []) × (tenure ≤ fence) × (fence ≤ 1)
IsLowSlot (Some state) node shard points tenure fence = IsLowFor state.place node shard tenure × (fence ≤ state.place.version)

-- the slot's files are sound, and hold these points
pub record SlotHolds (state : Option MetaState) (node shard : ℕ) (points : List Point) (files : Files) : Type 0 where
  pub tenure : ℕ
  pub fence : ℕ
  pub whole : HoldWhole points tenure fence files
  pub low : IsLowSlot state node shard points tenure fence

-- ---- all slots

abbrev pub replica_slot : ℕ → ℕ → DiskSlot
replica_slot node shard = record { node = node; shard = shard }

-- These files, one choice for each slot, stand for the runs: those of the meta disk have the state that the runs left; those of the other slots hold no point that wasn't sent, and of each point that was
-- acknowledged, and hasn't expired, each majority of its shard's replicas has one that holds it, or a higher value.
pub record FilesStandFor (past : List Record) (files : DiskSlot → Files) : Type 0 where
  pub state : Option MetaState
  pub last : MetaHolds state (files meta_slot)
  pub follows : FollowsFrom None past state
  pub held : HeldAtOpening
  pub slots : (node shard : ℕ) → IsForReplicas (replica_slot node shard) → SlotHolds state node shard (held node shard) (files (replica_slot node shard))
  pub none : (node shard : ℕ) → replica_slot node shard ≡ meta_slot → held node shard ≡ []
  pub stands : OpeningStands past state held

-- the disks tell, and each choice of files that a stop may leave of them stands so
pub record StandFor {D : Type 0} (state : D → DiskState) (past : List Record) (held : DiskSlot → Held D) : Type 0 where
  pub tell : TellAll state
  pub each : (files : DiskSlot → Files) → ((slot : DiskSlot) → MayLie state (held slot) (files slot)) → FilesStandFor past files

-- what stood for some runs before stands for them now
abbrev pub StandsStill : {D : Type 0} → (D → DiskState) → (DiskSlot → Held D) → (DiskSlot → Held D) → Type 0
StandsStill state before now = (past : List Record) → StandFor state past before → StandFor state past now
