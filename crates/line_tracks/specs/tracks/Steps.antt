-- One more line, and what a cluster is tracked by after it.
use Rattle.m3_model.specs.declared.act.Act.{Act}
use Rattle.m3_model.specs.declared.act.Act.TheVariants as act
use Rattle.m3_model.specs.declared.answer.Answer.{Answer}
use Rattle.m3_model.specs.declared.answer.Answer.TheVariants as answer
use Rattle.m3_model.specs.declared.limits.TheConstants.{MOST_CLIENTS}
use Rattle.m3_model.specs.declared.turn.Turn.{Turn}
use Rattle.m3_model.specs.declared.rules.MetaState.{MetaState}
use Rattle.m3_outside.specs.Causes.{RoseBy}
use Rattle.m3_outside.specs.Depots.{Depot, TellAll}
use Rattle.m3_outside.specs.DiskState.{DiskState}
use Rattle.m3_outside.specs.declared.disk.Disk.{Ghosts}
use Rattle.m3_outside.specs.declared.slot.DiskSlot.{DiskSlot}
use Rattle.cluster_core.specs.Legal.{Legal}
use Rattle.cluster_core.specs.declared.event.Event.{Event}
use Rattle.cluster_core.specs.declared.event.Event.TheVariants as event
use Rattle.node_calls.specs.session_net.Runs.{Ran}
use Rattle.told_runs.specs.Lines.{ServesOne, delivered_on}
use Rattle.transcripts.specs.Deliveries.{LateMessage}
use Rattle.transcripts.specs.Faults.{Fault}
use Rattle.transcripts.specs.Record.{Record, TurnPosition, line_of}
use Rattle.line_tracks.specs.calls.Laws.{Kind}
use Rattle.line_tracks.specs.calls.Left.{WereDelivered}
use Rattle.node_calls.specs.cluster_members.declared.members.Members.{Members}
use Rattle.first_cluster.specs.First.{IsFirst}
use Rattle.first_cluster.specs.Slots.{slots_of}
use Rattle.line_tracks.specs.acts.Stands.{NoneStands, ClusterStands}
use Rattle.line_tracks.specs.acts.Opens.{OpensLow}
use Rattle.line_tracks.specs.tracks.Failures.{OnlyReplicasStep}
use Rattle.line_tracks.specs.tracks.Numbers.{numbers_by}
use Rattle.line_tracks.specs.tracks.Tracks.{MayStandSo, StandsSo, Tracks, events_of}
use Rattle.line_tracks.specs.tracks.Lain.{LayBare, LayLow}
use Rattle.placement_core.specs.Lawful.{IsLawful}
use Rattle.std.specs.FinMap.{empty}
use Rattle.std.specs.Prelude.{◌≡◌, ◌≤◌, ◌+◌, ℕ, List, [], ◌∷◌, ◌++◌, length, replicate, Option, Some, None, Bool, true}
use Rattle.cluster_placements.specs.Lending.{HaveGained}

-- ---- the run's beginning

-- Where no state was found, a cluster that made nothing tracks no turns, over disks without points where they tell.
abbrev pub TracksAtFirst : {D : Type 0} {G : Ghosts D} → (D → DiskState) → Option (Members D G) → Type 0
TracksAtFirst {D} {G} state members =
    (tells : Bool) (past : List Record) (start : Option MetaState) (first : Depot D) (calls : List ℕ) → start ≡ None → members ≡ None → calls ≡ replicate (MOST_CLIENTS + 1) 0 → (tells ≡ true → TellAll state) → (tells ≡ true → LayBare state past first.held) → Tracks state tells past start first first [] members calls

-- a cluster that was opened by a state that was found, over the disks of its slots; where they tell, these are low by the state, and stand for the life
pub record BeginsAfresh {D : Type 0} {G : Ghosts D} (state : D → DiskState) (tells : Bool) (past : List Record) (found : MetaState) (first now : Depot D) (m : Members D G) : Type 0 where
  pub lawful : IsLawful found.place
  pub opened : m.net.replicas.events ≡ event.Place found.place [] ∷ event.Clock found.rules ∷ []
  pub legal : Legal tells m.net.replicas.events
  pub stands : ClusterStands (Some found) [] m
  pub slots : m.slots.items ≡ slots_of found.place
  pub gained : HaveGained state (slots_of found.place) first empty now m.net.replicas.members
  pub lain : tells ≡ true → LayLow state past found first.held

-- So it tracks no turns.
abbrev pub TracksAfresh : {D : Type 0} {G : Ghosts D} → (D → DiskState) → Option (Members D G) → Type 0
TracksAfresh {D} {G} state members =
    (tells : Bool) (past : List Record) (found : MetaState) (first now : Depot D) (calls : List ℕ) (m : Members D G) → members ≡ Some m → calls ≡ replicate (MOST_CLIENTS + 1) 0 → (tells ≡ true → TellAll state)
    → BeginsAfresh state tells past found first now m → Tracks state tells past (Some found) first now [] members calls

-- ---- one line

-- what came to the list tells of the line, and serves it, with these disks that couldn't be taken; it delivers these messages
pub record AddsLine (Line : Kind) (tells : Bool) (past : List Record) (start : Option MetaState) (untaken : List Fault) (messages : List LateMessage) (was : TurnPosition → List LateMessage) (turns : List Turn) (events : List Event) (a : Act) (b : Answer) (later : List Event) : Type 0 where
  pub more : List Event
  pub grew : later ≡ events ++ more
  pub line : Line start turns events a b more
  pub serves : ServesOne tells untaken messages was past start turns events a b more
  pub delivered : WereDelivered (turns ++ line_of a b ∷ []) (delivered_on turns was (λ p. messages))

-- so it does; each disk that couldn't be taken is counted, no slot's count fell, and the cluster is what the turns left, the line's with them
pub record IsNext {D : Type 0} {G : Ghosts D} (Line : Kind) (state : D → DiskState) (tells : Bool) (past : List Record) (start : Option MetaState) (was : TurnPosition → List LateMessage) (turns : List Turn) (before : Depot D) (old : Option (Members D G)) (a : Act) (b : Answer) (now : Depot D) (new : Option (Members D G)) : Type 0 where
  pub untaken : List Fault
  pub messages : List LateMessage
  pub adds : AddsLine Line tells past start untaken messages was turns (events_of old) a b (events_of new)
  pub legal : Legal tells (events_of new)
  pub rose : RoseBy (length untaken) before.faults now.faults
  pub later : (disk_slot : DiskSlot) → before.counted disk_slot ≤ now.counted disk_slot
  pub after : MayStandSo state tells past start now (turns ++ line_of a b ∷ []) new

-- Then the turns are tracked with it.
abbrev pub TracksOn : {D : Type 0} {G : Ghosts D} → Kind → (D → DiskState) → Option (Members D G) → Type 0
TracksOn {D} {G} Line state old =
    (tells : Bool) (past : List Record) (start : Option MetaState) (first before now : Depot D) (turns : List Turn) (calls : List ℕ) (a : Act) (b : Answer) (new : Option (Members D G))
    → (t : Tracks state tells past start first before turns old calls) → IsNext Line state tells past start t.delivered turns before old a b now new
    → Tracks state tells past start first now (turns ++ line_of a b ∷ []) new (numbers_by a b calls)

-- ---- a line of a cluster that stands

-- its replicas took the steps that came to the list, the slots and the placements stay, and it is what the turns left
pub record StandsOn {D : Type 0} {G : Ghosts D} (state : D → DiskState) (tells : Bool) (start : Option MetaState) (turns : List Turn) (old : Members D G) (a : Act) (b : Answer) (new : Members D G) : Type 0 where
  pub more : List Event
  pub ran : Ran state old.net.replicas more new.net.replicas
  pub others : OnlyReplicasStep old.net.replicas more
  pub slots : new.slots.items ≡ old.slots.items
  pub past : new.past.items ≡ old.past.items
  pub place : new.net.state.place ≡ old.net.state.place
  pub stands : ClusterStands start (turns ++ line_of a b ∷ []) new
  pub low : tells ≡ true → OpensLow state start new.net.replicas

-- so it stands after the line
abbrev pub StandsAfterLine : {D : Type 0} {G : Ghosts D} → (D → DiskState) → Members D G → Type 0
StandsAfterLine {D} {G} state old =
    (tells : Bool) (past : List Record) (start : Option MetaState) (now : Depot D) (turns : List Turn) (a : Act) (b : Answer) (new : Members D G) → StandsSo state tells past start now turns old → StandsOn state tells start turns old a b new → StandsSo state tells past start now (turns ++ line_of a b ∷ []) new

-- ---- the line of an `init` that made a cluster

-- A first cluster stands so after it: over disks that tell, these had no points.
abbrev pub FirstStandsSo : {D : Type 0} {G : Ghosts D} → (D → DiskState) → Members D G → Type 0
FirstStandsSo {D} {G} state m =
    (tells : Bool) (past : List Record) (turns : List Turn) (rf shards seed : ℕ) (nodes : List (List ℕ × List ℕ)) (old now : Depot D) → (tells ≡ true → TellAll state) → (tells ≡ true → LayBare state past old.held) → NoneStands turns → IsFirst state rf shards seed nodes old now m
    → Legal tells m.net.replicas.events
    → StandsSo state tells past None now (turns ++ line_of (act.Init rf shards seed nodes) (answer.Placed m.net.state.place m.net.state.place.version) ∷ []) m
