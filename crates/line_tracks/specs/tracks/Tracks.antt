-- What is so of a cluster and of the disks that it doesn't have, after the turns of a run.
use Rattle.std.specs.Prelude.{◌≡◌, ◌≤◌, ℕ, List, [], ◌++◌, length, Option, Some, None, Bool, true}
use Rattle.m3_model.specs.Members.{IsIn}
use Rattle.m3_model.specs.declared.placement.Assignment.{Assignment}
use Rattle.m3_model.specs.declared.placement.Placement.{Placement}
use Rattle.m3_model.specs.declared.turn.Turn.{Turn}
use Rattle.m3_model.specs.declared.rules.MetaState.{MetaState}
use Rattle.m3_outside.specs.Causes.{RoseBy}
use Rattle.m3_outside.specs.Depots.{Depot, TellAll}
use Rattle.m3_outside.specs.DiskState.{DiskState}
use Rattle.m3_outside.specs.declared.disk.Disk.{Ghosts}
use Rattle.m3_outside.specs.declared.slot.DiskSlot.{DiskSlot}
use Rattle.m3_outside.specs.Slots.{Held}
use Rattle.cluster_core.specs.Legal.{Legal}
use Rattle.cluster_core.specs.declared.event.Event.{Event}
use Rattle.told_runs.specs.told_causes.Faults.{faults_told}
use Rattle.told_runs.specs.Lines.{IsToldAndServed}
use Rattle.transcripts.specs.Deliveries.{LateMessage}
use Rattle.transcripts.specs.Faults.{Fault}
use Rattle.transcripts.specs.Record.{Record, TurnPosition}
use Rattle.line_tracks.specs.calls.Left.{WereDelivered}
use Rattle.node_calls.specs.cluster_members.declared.members.Members.{Members}
use Rattle.first_cluster.specs.Slots.{AreApart}
use Rattle.line_tracks.specs.acts.Stands.{NoneStands, ClusterStands}
use Rattle.line_tracks.specs.acts.Opens.{OpensLow}
use Rattle.line_tracks.specs.tracks.Numbers.{IsNumbered}
use Rattle.line_tracks.specs.tracks.Runs.{HaveRun}
use Rattle.line_tracks.specs.tracks.Lain.{AreStillThere, HadLain, LayBare}

-- the run's list of events; before `init` there is none
abbrev pub events_of : {D : Type 0} {G : Ghosts D} → Option (Members D G) → List Event
events_of None = []
events_of (Some m) = m.net.replicas.events

-- each replica of the placement has its shard since some version
abbrev pub HasTenures : Placement → Type 0
HasTenures place = (shard : List Assignment) → IsIn place.shards shard → (a : Assignment) → IsIn shard a → 1 ≤ a.tenure

-- One that stands: it is what the turns left, and its replicas did what the list says over what lay in their slots; its slots are apart, and those that never began
-- may begin. Where disks tell, what lay there stood for the life. In slots without a replica it still lies, or the disk that they gave.
pub record StandsSo {D : Type 0} {G : Ghosts D} (state : D → DiskState) (tells : Bool) (past : List Record) (start : Option MetaState) (now : Depot D) (turns : List Turn) (m : Members D G) : Type 0 where
  pub stands : ClusterStands start turns m
  pub lay : DiskSlot → Held D
  pub lain : tells ≡ true → HadLain state past start lay
  pub run : HaveRun state lay now m.net.replicas
  pub still : AreStillThere state lay m.net.replicas.members now.held
  pub apart : AreApart m.slots.items
  pub low : tells ≡ true → OpensLow state start m.net.replicas
  pub tenures : start ≡ None → HasTenures m.net.state.place

-- none stands: no state was found, and the turns left nothing; where disks tell, those that lie in slots have no points, and earlier runs left none
pub record NoneStandsYet {D : Type 0} (state : D → DiskState) (tells : Bool) (past : List Record) (start : Option MetaState) (now : Depot D) (turns : List Turn) : Type 0 where
  pub found : start ≡ None
  pub none : NoneStands turns
  pub lain : tells ≡ true → LayBare state past now.held

-- one stands so, or none does
abbrev pub MayStandSo : {D : Type 0} {G : Ghosts D} → (D → DiskState) → Bool → List Record → Option MetaState → Depot D → List Turn → Option (Members D G) → Type 0
MayStandSo state tells past start now turns None = NoneStandsYet state tells past start now turns
MayStandSo state tells past start now turns (Some m) = StandsSo state tells past start now turns m

-- The list is legal, tells of the turns, and serves them; the next calls have the numbers that the turns leave; the count of all faults rose by as much as disks
-- couldn't be taken, and no slot's fell; and the cluster is what the turns left. More is said where the disks tell what they hold.
pub record Tracks {D : Type 0} {G : Ghosts D} (state : D → DiskState) (tells : Bool) (past : List Record) (start : Option MetaState) (first now : Depot D) (turns : List Turn) (members : Option (Members D G)) (calls : List ℕ) : Type 0 where
  pub tell : tells ≡ true → TellAll state
  pub legal : Legal tells (events_of members)
  pub taking : List Fault  -- the disks that couldn't be taken
  pub delivered : TurnPosition → List LateMessage  -- which late messages each turn delivered
  pub served : IsToldAndServed tells taking delivered past start turns None (events_of members)
  pub were : WereDelivered turns delivered
  pub numbered : IsNumbered turns calls
  pub untaken : RoseBy (length taking) first.faults now.faults
  pub later : (disk_slot : DiskSlot) → first.counted disk_slot ≤ now.counted disk_slot
  pub after : MayStandSo state tells past start now turns members

-- all faults of a run that is tracked so: of disks that couldn't be taken, and those that its steps tell
abbrev pub faults_of : {D : Type 0} {G : Ghosts D} {state : D → DiskState} {tells : Bool} {past : List Record} {start : Option MetaState} {first now : Depot D} {turns : List Turn} {members : Option (Members D G)} {calls : List ℕ} → Tracks state tells past start first now turns members calls → List Fault
faults_of {D} {G} {state} {tells} {past} {start} {first} {now} {turns} {members} {calls} t = t.taking ++ faults_told (t.served.0).ends (events_of members) (length turns)
