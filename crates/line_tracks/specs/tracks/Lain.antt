-- What lay in the slots when a cluster was made, or opened again over what earlier runs left.
use Rattle.std.specs.Prelude.{◌≡◌, ◌≤◌, ◌⊎◌, ℕ, ⊤, List, [], Option, Some, None}
use Rattle.std.specs.FinMap as finite
use Rattle.m3_model.specs.declared.placement.Placement.{Placement}
use Rattle.m3_model.specs.declared.point.Point.{Point}
use Rattle.m3_model.specs.declared.rules.MetaState.{MetaState}
use Rattle.m3_outside.specs.DiskState.{DiskState, EachImage, IsEmpty}
use Rattle.m3_outside.specs.Files.{Files}
use Rattle.m3_outside.specs.Slots.{Held, Unused, Here, Out, MayGive}
use Rattle.m3_outside.specs.declared.slot.DiskSlot.{DiskSlot}
use Rattle.shard_files.specs.FilesHold.{FilesHold}
use Rattle.shard_files.specs.Parts.{AreWhole}
use Rattle.cluster_core.specs.Core.{Opening}
use Rattle.transcripts.specs.Record.{Record}
use Rattle.node_calls.specs.replica_exchange.declared.slot.Slot.{Slot}
use Rattle.node_calls.specs.replica_calls.Slots.{MemberMap}
use Rattle.node_calls.specs.session_net.Runs.{slot_at}
use Rattle.transcripts.specs.Left.{OpeningStands}
use Rattle.first_cluster.specs.Bare.{AreBare}
use Rattle.first_cluster.specs.Depots.{disk_slot_of}
use Rattle.life_ends.specs.Lies.{MayLie}
use Rattle.life_ends.specs.Low.{IsLowTenure}
use Rattle.life_ends.specs.Runs.{FilesStand}

-- no replica opens with a point
abbrev pub no_points : Opening
no_points n s = []

-- what lay in the slot of a replica
abbrev pub lain_at : {D : Type 0} → (DiskSlot → Held D) → ℕ → ℕ → Held D
lain_at lay n s = lay (disk_slot_of (slot_at n s))

-- ---- tenures and fences

-- the files are sound, their tenure is low so, and their fence isn't above the version
pub record LiesLow (place : Placement) (n s : ℕ) (files : Files) : Type 0 where
  pub points : List Point
  pub tenure : ℕ
  pub fence : ℕ
  pub held : FilesHold points tenure fence files
  pub low : IsLowTenure place n s tenure
  pub fenced : fence ≤ place.version

-- whatever a stop leaves of a disk that lies in the slot
abbrev pub IsLowAt : {D : Type 0} → (D → DiskState) → Placement → ℕ → ℕ → Held D → Type 0
IsLowAt state place n s Unused = ⊤
IsLowAt state place n s (Here disk) = EachImage (state disk) (LiesLow place n s)
IsLowAt state place n s Out = ⊤

-- each slot's is so
abbrev pub AreLow : {D : Type 0} → (D → DiskState) → Placement → (DiskSlot → Held D) → Type 0
AreLow state place lay = (n s : ℕ) → IsLowAt state place n s (lain_at lay n s)

-- ---- for a life

-- what a stop leaves of any slot is sound in older snapshots, too
abbrev pub AllLieWhole : {D : Type 0} → (D → DiskState) → (DiskSlot → Held D) → Type 0
AllLieWhole state lay = (disk_slot : DiskSlot) (files : Files) → MayLie state (lay disk_slot) files → AreWhole files

-- where no state was found: no points lay there, and earlier runs left none
pub record LayBare {D : Type 0} (state : D → DiskState) (past : List Record) (lay : DiskSlot → Held D) : Type 0 where
  pub bare : AreBare state lay
  pub whole : AllLieWhole state lay
  pub stand : OpeningStands past None no_points

-- where one was found: what lay there was sound and low for its placement, and stands for the life
pub record LayLow {D : Type 0} (state : D → DiskState) (past : List Record) (found : MetaState) (lay : DiskSlot → Held D) : Type 0 where
  pub low : AreLow state found.place lay
  pub whole : AllLieWhole state lay
  pub stand : FilesStand state past (Some found) (lain_at lay)

-- so it was, by what the run found
abbrev pub HadLain : {D : Type 0} → (D → DiskState) → List Record → Option MetaState → (DiskSlot → Held D) → Type 0
HadLain state past None lay = LayBare state past lay
HadLain state past (Some found) lay = LayLow state past found lay

-- ---- slots without a replica

-- there lies what lay there, or the disk that it gave
abbrev pub IsStillThere : {D : Type 0} → (D → DiskState) → Held D → Held D → Type 0
IsStillThere {D} state was now = (now ≡ was) ⊎ ((disk : D) × (now ≡ Here disk) × MayGive (λ d. IsEmpty (state d)) was disk)

abbrev pub AreStillThere : {D : Type 0} → (D → DiskState) → (DiskSlot → Held D) → MemberMap D → (DiskSlot → Held D) → Type 0
AreStillThere state lay members now = (s : Slot) → finite.get members s ≡ None → IsStillThere state (lay (disk_slot_of s)) (now (disk_slot_of s))
