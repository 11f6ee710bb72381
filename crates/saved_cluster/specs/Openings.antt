-- A cluster opened over the meta disk.
use Rattle.std.specs.Prelude.{◌≡◌, ◌≢◌, ◌⊎◌, ⊤, ◌≤◌, List, [], Option, Some, None, Bool, true}
use Rattle.m3_model.specs.declared.rules.MetaState.{MetaState}
use Rattle.m3_outside.specs.Causes.{Rose}
use Rattle.m3_outside.specs.Depots.{Depot, TellAll}
use Rattle.m3_outside.specs.DiskState.{DiskState, Elapses, IsEmpty, Told}
use Rattle.m3_outside.specs.Files.{Stays}
use Rattle.m3_outside.specs.Slots.{Here, MayGive, Out, OthersStay}
use Rattle.m3_outside.specs.declared.disk.Disk.{Ghosts}
use Rattle.m3_outside.specs.declared.slot.DiskSlot.{DiskSlot}
use Rattle.line_tracks.specs.cluster_members.declared.members.Members.{Members}
use Rattle.line_tracks.specs.first_cluster.Lending.{IsLeftAt}
use Rattle.line_tracks.specs.replica_exchange.declared.slot.Slot.{Slot}
use Rattle.line_tracks.specs.first_cluster.Depots.{IsForReplicas, disk_slot_of, meta_slot}
use Rattle.line_tracks.specs.transcripts.Record.{Record}
use Rattle.line_tracks.specs.tracks.Lain.{HadLain}
use Rattle.opened_cluster.specs.Reopened.{IsReopened}
use Rattle.placement_log.specs.Damage.{MayBeDamaged}
use Rattle.placement_log.specs.MetaHolds.{MetaHolds}
use Rattle.placement_log.specs.declared.open_err.OpenErr.{OpenErr}
use Rattle.placement_log.specs.declared.open_err.OpenErr.TheVariants as failures
use Rattle.served_cluster.specs.Acts.{first_numbers}
use Rattle.served_cluster.specs.Owned.{TracksTurns}
use Rattle.served_cluster.specs.Plans.{state_of}
use Rattle.served_cluster.specs.declared.cluster.Cluster.{Cluster}
use Rattle.saved_cluster.specs.declared.saved.SavedCluster.{SavedCluster}

-- the meta disk was read and not changed: reads give what they gave, and a stop leaves what it might have left before
pub record IsRead {D : Type 0} (disk_state : D → DiskState) (disk read : D) : Type 0 where
  pub tells : (disk_state read).tells ≡ (disk_state disk).tells
  pub files : (disk_state disk).tells ≡ true → (disk_state read).files ≡ (disk_state disk).files
  pub any_moment : (disk_state disk).tells ≡ true → Elapses Stays (disk_state disk) (disk_state read)
  pub faults : (disk_state disk).faults ≤ (disk_state read).faults

-- the disk that the slot of the meta disk gave
pub record IsMetaDisk {D : Type 0} (disk_state : D → DiskState) (old : Depot D) (disk : D) : Type 0 where
  pub given : MayGive (λ d. IsEmpty (disk_state d)) (old.held meta_slot) disk
  pub counted : (disk_state disk).faults ≡ old.counted meta_slot

-- it alone was taken
pub record HasMetaDisk {D : Type 0} (old new : Depot D) : Type 0 where
  pub held : new.held meta_slot ≡ Out
  pub others : OthersStay meta_slot old.held new.held
  pub counted : (disk_slot : DiskSlot) → new.counted disk_slot ≡ old.counted disk_slot
  pub later : old.faults ≤ new.faults

-- Nothing is initialised where there was no state, and no further disk is taken; else the state stands.
abbrev pub OpensWith : {D : Type 0} {G : Ghosts D} → (D → DiskState) → Option MetaState → Depot D → Depot D → Option (Members D G) → Type 0
OpensWith disk_state None mid new members = (members ≡ None) × (new ≡ mid)
OpensWith {D} {G} disk_state (Some state) mid new members = (m : Members D G) × (members ≡ Some m) × IsReopened disk_state state mid new m

-- The turns of a run are tracked from here on, by the state that it found, for whatever runs were before it: over disks that tell, what lay in the slots before the
-- cluster's were taken stands for these runs; where no state was found it has no points.
abbrev pub BeginsTracked : {D : Type 0} {G : Ghosts D} → (D → DiskState) → Depot D → Depot D → Cluster D G → Type 0
BeginsTracked disk_state first now c =
    (tells : Bool) (past : List Record) → (tells ≡ true → TellAll disk_state) → (tells ≡ true → HadLain disk_state past (state_of c) first.held) → TracksTurns disk_state tells past (state_of c) first now [] c

-- The meta disk is out and was read; what it holds last, if anything, is the cluster's state; and replicas stand over the disks of its slots. The turns are tracked
-- from here on, over what lay in the slots once the meta disk was taken.
pub record IsOpened {D : Type 0} {G : Ghosts D} (disk_state : D → DiskState) (old new : Depot D) (c : SavedCluster D G) : Type 0 where
  pub disk : D
  pub is_meta : IsMetaDisk disk_state old disk
  pub read : IsRead disk_state disk c.meta
  pub mid : Depot D
  pub has : HasMetaDisk old mid
  pub last : Told (disk_state disk) (MetaHolds (state_of c.cluster))
  pub opens : OpensWith disk_state (state_of c.cluster) mid new c.cluster.members
  pub calls : c.cluster.calls ≡ first_numbers  -- no call was made yet
  pub tracks : BeginsTracked disk_state mid new c.cluster

-- at the slot of the meta disk all is as it was, or its disk was read and is back
abbrev pub IsMetaBack : {D : Type 0} → (D → DiskState) → Depot D → Depot D → Type 0
IsMetaBack {D} disk_state old new =
    ((new.held meta_slot ≡ old.held meta_slot) × (new.counted meta_slot ≡ old.counted meta_slot))
    ⊎ ((disk : D) × (read : D) × IsMetaDisk disk_state old disk × IsRead disk_state disk read × (new.held meta_slot ≡ Here read) × (new.counted meta_slot ≡ (disk_state read).faults))

-- each disk that was taken is back: those of nodes as they were
pub record IsGivenBack {D : Type 0} (disk_state : D → DiskState) (old new : Depot D) : Type 0 where
  pub meta : IsMetaBack disk_state old new
  pub nodes : (s : Slot) → IsForReplicas (disk_slot_of s) → IsLeftAt disk_state old new s
  pub later : old.faults ≤ new.faults

-- Why it wasn't opened. A fault: the count of all rose, or that of the meta disk. Damage: that of the log that the meta disk has. Memory may always be wanted.
abbrev pub MayNotOpen : {D : Type 0} → (D → DiskState) → Depot D → Depot D → OpenErr → Type 0
MayNotOpen {D} disk_state old new failures.Disk = Rose old.faults new.faults ⊎ Rose (old.counted meta_slot) (new.counted meta_slot)
MayNotOpen {D} disk_state old new failures.Memory = ⊤
MayNotOpen {D} disk_state old new (failures.Digest number kept found) = (disk : D) × IsMetaDisk disk_state old disk × Told (disk_state disk) (λ files. MayBeDamaged files (failures.Digest number kept found))
MayNotOpen {D} disk_state old new (failures.Form number at) = (disk : D) × IsMetaDisk disk_state old disk × Told (disk_state disk) (λ files. MayBeDamaged files (failures.Form number at))

-- ---- within an opening

-- why the saved state doesn't stand: the disk of a slot couldn't be taken, or memory was wanted
abbrev pub MayNotGoOn : {D : Type 0} → Depot D → Depot D → OpenErr → Type 0
MayNotGoOn old new failures.Disk = Rose old.faults new.faults
MayNotGoOn old new failures.Memory = ⊤
MayNotGoOn old new _ = ⊥

-- or the meta disk wasn't read
abbrev pub MayNotOpenOver : {D : Type 0} → (D → DiskState) → Depot D → Depot D → D → D → OpenErr → Type 0
MayNotOpenOver disk_state old new disk read failures.Disk = Rose old.faults new.faults ⊎ Rose (disk_state disk).faults (disk_state read).faults
MayNotOpenOver disk_state old new disk read failures.Memory = ⊤
MayNotOpenOver disk_state old new disk read e = Told (disk_state disk) (λ files. MayBeDamaged files e)
