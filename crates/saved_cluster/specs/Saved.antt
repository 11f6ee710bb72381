-- What a cluster whose state is kept needs to serve a request, and what is so of the meta disk within and after each.
use Rattle.std.specs.Prelude.{◌≡◌, ◌⊎◌, ℕ, List, ◌∷◌, [], ◌++◌, Option, Some, None, Bool, true, false, Result, IfOk, OnOk, IfSome, IsErrOf, ⊤}
use Rattle.m3_model.specs.declared.act.Act.{Act}
use Rattle.m3_model.specs.declared.act.Act.TheVariants as act
use Rattle.m3_model.specs.declared.answer.Answer.{Answer}
use Rattle.m3_model.specs.declared.rules.MetaState.{MetaState}
use Rattle.m3_model.specs.declared.turn.Reply.{Reply}
use Rattle.m3_model.specs.declared.turn.Request.{Request}
use Rattle.m3_model.specs.declared.turn.Request.TheVariants as request
use Rattle.m3_model.specs.declared.turn.Turn.{Turn}
use Rattle.m3_outside.specs.Causes.{CountsFaults}
use Rattle.m3_outside.specs.Depots.{Depot}
use Rattle.m3_outside.specs.DiskState.{DiskState, EachImage, Elapses}
use Rattle.m3_outside.specs.Slots.{Held, Out}
use Rattle.m3_outside.specs.declared.disk.Disk.{Ghosts}
use Rattle.m3_outside.specs.declared.slot.DiskSlot.{DiskSlot}
use Rattle.placement_log.specs.MetaHolds.{IsReadyToSave, KeepsLast, MaySave, MetaEnd, MetaHolds, MetaStands}
use Rattle.placement_log.specs.States.{MayBeState}
use Rattle.line_tracks.specs.cluster_members.declared.members.Members.{Members}
use Rattle.line_tracks.specs.first_cluster.Depots.{meta_slot}
use Rattle.line_tracks.specs.node_calls.Nodes.{IsNode}
use Rattle.line_tracks.specs.transcripts.Record.{IsAnsweredBy, Record}
use Rattle.served_cluster.specs.Acts.{Serves, ServesRequest}
use Rattle.served_cluster.specs.Owned.{MayServeCluster, TracksTurns}
use Rattle.served_cluster.specs.Plans.{state_of}
use Rattle.served_cluster.specs.declared.cluster.Cluster.{Cluster}
use Rattle.saved_cluster.specs.States.{RequestLeadsTo, kept_of}
use Rattle.saved_cluster.specs.declared.lost.Lost.{Lost}
use Rattle.saved_cluster.specs.declared.lost.Lost.TheVariants as lost
use Rattle.saved_cluster.specs.declared.saved.SavedCluster.{SavedCluster}

-- each stop leaves this state as the last one, or none
abbrev pub IsSaved : Option MetaState → DiskState → Type 0
IsSaved state d = EachImage d (MetaHolds state)

-- It may be closed: the disks that are out are its own and the meta disk.
pub record MayClose {D : Type 0} {G : Ghosts D} (c : SavedCluster D G) (held : DiskSlot → Held D) : Type 0 where
  pub cluster : MayServeCluster c.cluster held
  pub meta_out : held meta_slot ≡ Out

-- The cluster may serve; its state is one that may be saved, and is the one that each stop leaves; and the log of the meta disk, which is out, is as its owner knows it.
pub record MayServeSaved {D : Type 0} {G : Ghosts D} (disk_state : D → DiskState) (c : SavedCluster D G) (held : DiskSlot → Held D) : Type 0 where
  pub cluster : MayServeCluster c.cluster held
  pub meta_out : held meta_slot ≡ Out
  pub log : MetaStands c.log (disk_state c.meta)
  pub state : MayBeState (state_of c.cluster)
  pub saved : IsSaved (state_of c.cluster) (disk_state c.meta)

-- the node of a bootstrap is one of the cluster's that runs
abbrev pub RunsOn : {D : Type 0} {G : Ghosts D} → Cluster D G → Request → Type 0
RunsOn {D} {G} c (request.One (act.Bootstrap name asked)) = (m : Members D G) × (c.members ≡ Some m) × IsNode m name false
RunsOn c _ = ⊤

-- the request leads from the cluster's state to this one
pub record Leads {D : Type 0} {G : Ghosts D} (c : Cluster D G) (asked : Request) (next : MetaState) : Type 0 where
  pub to : RequestLeadsTo (state_of c) (kept_of c) asked next
  pub runs : RunsOn c asked

-- where a cluster stands this is its state
abbrev pub HasState : {D : Type 0} {G : Ghosts D} → Cluster D G → MetaState → Type 0
HasState c state = IfSome (state_of c) (λ it. it ≡ state)

-- Within a request a stop left the last state from before it, which the cluster still has; or that or the one to which the request leads, and this is the cluster's where one stands afterwards.
abbrev pub ElapsesBy : {D : Type 0} {G : Ghosts D} → Cluster D G → Request → Cluster D G → DiskState → DiskState → Type 0
ElapsesBy before asked after old new = ((state_of after ≡ state_of before) × Elapses KeepsLast old new) ⊎ ((next : MetaState) × Leads before asked next × HasState after next × Elapses (MaySave next) old new)

-- all is there that a save of this state takes, if there is one
abbrev pub IsReadyFor : Option MetaState → MetaEnd → DiskState → Type 0
IsReadyFor None log d = ⊥
IsReadyFor (Some next) log d = IsReadyToSave log next d

-- It serves the act, by its answer; or, where it got none, by one that it might have got.
abbrev pub ServesSome : {D : Type 0} {G : Ghosts D} → (D → DiskState) → Depot D → Cluster D G → Act → Result Answer Lost → Depot D → Cluster D G → Type 0
ServesSome state depot old a answered after new = (said : Answer) × IfOk answered (λ b. b ≡ said) × Serves state depot old a said after new

-- What an act is answered, or that it got no answer, and what that leaves of the cluster and of the meta disk: from an answer on the cluster may serve, and each stop leaves its state; within the act a stop left the state
-- from before it, or the one to which it leads; and the meta disk is blamed only where its count rose.
pub record AnswersSaved {D : Type 0} {G : Ghosts D} (disk_state : D → DiskState) (before : Depot D) (old : SavedCluster D G) (a : Act) (answered : Result Answer Lost) (after : Depot D) (new : SavedCluster D G) : Type 0 where
  pub may : OnOk answered (MayServeSaved disk_state new after.held)
  pub close : MayClose new after.held
  pub served : ServesSome disk_state before old.cluster a answered after new.cluster
  pub any_moment : (disk_state old.meta).tells ≡ true → ElapsesBy old.cluster (request.One a) new.cluster (disk_state old.meta) (disk_state new.meta)
  pub tells : (disk_state new.meta).tells ≡ (disk_state old.meta).tells
  pub faults : CountsFaults (IsErrOf answered lost.Meta) (disk_state old.meta).faults (disk_state new.meta).faults

-- so it does of a request
abbrev pub ServesRequestSome : {D : Type 0} {G : Ghosts D} → (D → DiskState) → Depot D → Cluster D G → Request → Result Reply Lost → Depot D → Cluster D G → Type 0
ServesRequestSome state depot old asked answered after new = (said : Reply) × IfOk answered (λ r. r ≡ said) × ServesRequest state depot old asked said after new

-- Memory was wanted as the replicas of a first cluster began: none stands, and each stop leaves the state that it was to have.
pub record IsUnbegun {D : Type 0} {G : Ghosts D} (disk_state : D → DiskState) (old : SavedCluster D G) (asked : Request) (new : SavedCluster D G) : Type 0 where
  pub none : new.cluster.members ≡ None
  pub next : MetaState
  pub leads : RequestLeadsTo (state_of old.cluster) (kept_of old.cluster) asked next
  pub saved : IsSaved (Some next) (disk_state new.meta)

-- The turns that are tracked are so with the request, by its reply; or, where it got none, by one that it might have got.
abbrev pub TracksRequest : {D : Type 0} {G : Ghosts D} → (D → DiskState) → Bool → List Record → Option MetaState → Depot D → Depot D → List Turn → Request → Result Reply Lost → SavedCluster D G → Type 0
TracksRequest disk_state tells past start first after turns asked answered c = (said : Reply) × IfOk answered (λ r. r ≡ said) × TracksTurns disk_state tells past start first after (turns ++ record { request = asked; reply = said } ∷ []) c.cluster × IsAnsweredBy asked said
