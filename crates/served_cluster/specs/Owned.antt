-- What a cluster needs to serve a request: the disks that are out are its own, its calls may be made, and its slots have their replicas.
use Rattle.std.specs.Prelude.{◌≡◌, ⊤, List, [], Option, Some, None, Bool, option_map}
use Rattle.std.specs.FinMap.{get}
use Rattle.m3_model.specs.declared.placement.Placement.{Placement}
use Rattle.m3_outside.specs.Depots.{Depot}
use Rattle.m3_outside.specs.DiskState.{DiskState}
use Rattle.m3_outside.specs.Slots.{Held, Here}
use Rattle.m3_outside.specs.declared.disk.Disk.{Ghosts}
use Rattle.m3_outside.specs.declared.slot.DiskSlot.{DiskSlot}
use Rattle.m3_model.specs.declared.rules.MetaState.{MetaState}
use Rattle.m3_model.specs.declared.turn.Turn.{Turn}
use Rattle.line_tracks.specs.replica_exchange.declared.member.Member.{Member}
use Rattle.line_tracks.specs.replica_exchange.declared.slot.Slot.{Slot}
use Rattle.line_tracks.specs.session_net.Ready.{IsReady}
use Rattle.line_tracks.specs.session_net.Runs.{steps_of}
use Rattle.line_tracks.specs.cluster_members.Kept.{PastServes}
use Rattle.line_tracks.specs.cluster_members.declared.members.Members.{Members}
use Rattle.line_tracks.specs.node_calls.Halts.{AreManned}
use Rattle.line_tracks.specs.first_cluster.Depots.{OwnedBy, disk_slot_of}
use Rattle.line_tracks.specs.cluster_placements.Slots.{AreSlotsIn}
use Rattle.line_tracks.specs.tracks.Tracks.{Tracks}
use Rattle.line_tracks.specs.transcripts.Record.{Record}
use Rattle.served_cluster.specs.declared.cluster.Cluster.{Cluster}

-- calls may be made, and each slot has a replica
abbrev pub MayGo : {D : Type 0} {G : Ghosts D} → Members D G → Type 0
MayGo m = IsReady m.net.state m.net.replicas m.net.bag × AreManned m.slots.items m.net.replicas

-- each slot stands there once and is one of the placement's nodes and shards, and a slot without a replica has no step in the list
pub record HasItsSlots {D : Type 0} {G : Ghosts D} (m : Members D G) : Type 0 where
  pub slots : AreSlotsIn m.net.state.place m.slots.items
  pub unstepped : (s : Slot) → get m.net.replicas.members s ≡ None → steps_of s m.net.replicas.events ≡ []

-- where one stands, so it is, and calls may go by each placement that is kept
abbrev pub AreReady : {D : Type 0} {G : Ghosts D} → Option (Members D G) → Type 0
AreReady None = ⊤
AreReady (Some m) = MayGo m × PastServes m × HasItsSlots m

-- and the disks that are out are those of its replicas
pub record MayServeCluster {D : Type 0} {G : Ghosts D} (c : Cluster D G) (held : DiskSlot → Held D) : Type 0 where
  pub owned : OwnedBy c.members held
  pub ready : AreReady c.members

-- whatever disks are out, one that might serve with them still may
abbrev pub StillServes : {D : Type 0} {G : Ghosts D} → Cluster D G → Cluster D G → Type 0
StillServes {D} old new = (held : DiskSlot → Held D) → MayServeCluster old held → MayServeCluster new held

-- what a slot's disk is: where a replica has it, that one, and else the one in the slot
abbrev pub held_at : {D : Type 0} → Depot D → Option (Member D) → Slot → Held D
held_at depot None s = depot.held (disk_slot_of s)
held_at depot (Some member) s = Here member.machine.disk

abbrev pub place_of : {D : Type 0} {G : Ghosts D} → Cluster D G → Option Placement
place_of c = option_map (λ m. m.net.state.place) c.members

-- the turns are tracked, over disks that were so when the run began and are so now
abbrev pub TracksTurns : {D : Type 0} {G : Ghosts D} → (D → DiskState) → Bool → List Record → Option MetaState → Depot D → Depot D → List Turn → Cluster D G → Type 0
TracksTurns state tells past start first now turns c = Tracks state tells past start first now turns c.members c.calls
