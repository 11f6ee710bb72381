-- What a run leaves in the slots of replicas, once the disks are given back.
use Rattle.std.specs.Prelude.{◌≡◌, ◌≤◌, ℕ, List, [], ◌∷◌, ◌++◌, Option, Some, None, option_map, Bool, true}
use Rattle.m3_model.specs.Members.{IsIn}
use Rattle.m3_model.specs.declared.act.Act.{Act}
use Rattle.m3_model.specs.declared.act.Act.TheVariants as act
use Rattle.m3_model.specs.declared.answer.Answer.{Answer}
use Rattle.m3_model.specs.declared.point.Point.{Point}
use Rattle.m3_model.specs.declared.rules.MetaState.{MetaState}
use Rattle.m3_model.specs.declared.turn.Request.{Request}
use Rattle.m3_model.specs.declared.turn.Request.TheVariants as request
use Rattle.m3_model.specs.declared.turn.Turn.{Turn}
use Rattle.m3_outside.specs.Depots.{Depot}
use Rattle.m3_outside.specs.DiskState.{DiskState}
use Rattle.m3_outside.specs.Files.{Files}
use Rattle.m3_outside.specs.Slots.{Held, Here}
use Rattle.m3_outside.specs.declared.disk.Disk.{Ghosts}
use Rattle.m3_outside.specs.declared.slot.DiskSlot.{DiskSlot}
use Rattle.placement_plan.specs.First.{IsInitial}
use Rattle.shard_files.specs.FilesHold.{HoldWhole}
use Rattle.cluster_core.specs.Core.{Opening}
use Rattle.cluster_core.specs.declared.event.Event.{Event}
use Rattle.transcripts.specs.Left.{OpeningStands}
use Rattle.transcripts.specs.Record.{Record, line_of}
use Rattle.told_by.specs.Leaves.{MayBeOpen}
use Rattle.node_calls.specs.replica_exchange.declared.member.Member.{Member}
use Rattle.node_calls.specs.replica_exchange.declared.slot.Slot.{Slot}
use Rattle.node_calls.specs.replica_calls.Calls.{AreMembersOf}
use Rattle.node_calls.specs.session_net.Runs.{slot_at}
use Rattle.node_calls.specs.cluster_members.declared.members.Members.{Members}
use Rattle.first_cluster.specs.Depots.{disk_slot_of}
use Rattle.told_runs.specs.placement_acts.Acts.{is_step_act}
use Rattle.life_ends.specs.Lies.{MayLie}
use Rattle.life_ends.specs.Low.{IsLowTenure}
use Rattle.life_ends.specs.Runs.{ChangesNoContent}
use Rattle.line_tracks.specs.tracks.Acts.{IsServedBy}
use Rattle.line_tracks.specs.tracks.Ends.{replica_at}
use Rattle.line_tracks.specs.tracks.Lain.{lain_at}
use Rattle.line_tracks.specs.tracks.Lines.{EachMember}
use Rattle.line_tracks.specs.tracks.Tracks.{Tracks}

-- ---- files that stand for a life

-- where a state was left, tenure and fence aren't above what its placement has; where none was, no points are held, and the first tenure at most
abbrev pub AreLowBy : Option MetaState → ℕ → ℕ → List Point → ℕ → ℕ → Type 0
AreLowBy None n s points tenure fence = (points ≡ []) × (tenure ≤ fence) × (fence ≤ 1)
AreLowBy (Some left) n s points tenure fence = IsLowTenure left.place n s tenure × (fence ≤ left.place.version)

-- the files are sound, also in older snapshots, hold these points, and are low so
pub record HoldLow (left : Option MetaState) (n s : ℕ) (points : List Point) (files : Files) : Type 0 where
  pub tenure : ℕ
  pub fence : ℕ
  pub whole : HoldWhole points tenure fence files
  pub low : AreLowBy left n s points tenure fence

-- Some files of each slot: each holds what is low by the state that the runs left, and what all hold is what these left.
pub record SlotsStand (past : List Record) (left : Option MetaState) (files : ℕ → ℕ → Files) : Type 0 where
  pub opening : Opening
  pub slots : (n s : ℕ) → HoldLow left n s (opening n s) (files n s)
  pub stands : OpeningStands past left opening

-- so it is whatever a stop leaves of each slot
abbrev pub AllSlotsStand : {D : Type 0} → (D → DiskState) → List Record → Option MetaState → (DiskSlot → Held D) → Type 0
AllSlotsStand state past left held = (files : ℕ → ℕ → Files) → ((n s : ℕ) → MayLie state (lain_at held n s) (files n s)) → SlotsStand past left files

-- ---- disks given back

-- the disk of a replica, where one stands at the slot, and else what lay there
abbrev pub held_with : {D : Type 0} → (DiskSlot → Held D) → Option (Member D) → Slot → Held D
held_with now None s = now (disk_slot_of s)
held_with now (Some member) s = Here member.machine.disk

-- each replica's disk is back in its slot, and in all others lies what lay there
abbrev pub held_after : {D : Type 0} {G : Ghosts D} → Option (Members D G) → (DiskSlot → Held D) → DiskSlot → Held D
held_after members now slot = held_with now (replica_at members (slot_at slot.node slot.shard)) (slot_at slot.node slot.shard)

-- the state of a cluster, where one stands
abbrev pub state_with : {D : Type 0} {G : Ghosts D} → Option (Members D G) → Option MetaState
state_with members = option_map (λ m. m.net.state) members

-- the record of a run
abbrev pub record_with : Option MetaState → List Turn → Option Request → Record
record_with start turns unanswered = record { start = start; turns = turns; unanswered = unanswered }

-- ---- laws

-- What lies in the slots at the end of a run stands for the life with it, by the state that its turns left; whichever request got no answer, where its turn isn't among them.
abbrev pub LeavesStanding : {D : Type 0} {G : Ghosts D} → (D → DiskState) → Option (Members D G) → Type 0
LeavesStanding {D} {G} state members =
    (past : List Record) (start : Option MetaState) (first now : Depot D) (turns : List Turn) (calls : List ℕ) (unanswered : Option Request)
    → Tracks state true past start first now turns members calls → EachMember members (λ m. AreMembersOf state m.net.replicas)
    → AllSlotsStand state (past ++ record_with start turns unanswered ∷ []) (state_with members) (held_after members now.held)

-- Where no cluster was made it does so also by the first state of one, which was saved for an `init`.
abbrev pub LeavesUnmade : {D : Type 0} {G : Ghosts D} → (D → DiskState) → Option (Members D G) → Type 0
LeavesUnmade {D} {G} state members =
    (past : List Record) (start : Option MetaState) (first now : Depot D) (turns : List Turn) (calls : List ℕ) (unanswered : Option Request) (rf shards : ℕ) (nodes : List (List ℕ × List ℕ)) (next : MetaState)
    → members ≡ None → Tracks state true past start first now turns members calls → IsInitial rf shards nodes next.place
    → AllSlotsStand state (past ++ record_with start turns unanswered ∷ []) (Some next) (held_after members now.held)

-- a request's step was made: what came to the list before it is what a request makes that got no answer, and what came with it and behind it changes no replica's content
pub record MadeStep {D : Type 0} {G : Ghosts D} (asked : Request) (old new : Members D G) : Type 0 where
  pub more : List Event
  pub later : List Event
  pub grew : new.net.replicas.events ≡ (old.net.replicas.events ++ more) ++ later
  pub open_ : (e : Event) → IsIn more e → MayBeOpen (Some asked) old.net.state.rules e
  pub quiet : (e : Event) → IsIn later e → ChangesNoContent e

-- the act may lead to another state
abbrev pub may_step : Act → Bool
may_step (act.Init rf shards seed nodes) = true
may_step (act.Namespace name block past future retention) = true
may_step (act.Now now) = true
may_step (act.Bootstrap node shard) = true
may_step a = is_step_act a

-- So it was by each line of such an act, whatever it was answered.
abbrev pub StepsAreMade : {D : Type 0} {G : Ghosts D} → (D → DiskState) → Members D G → Members D G → Type 0
StepsAreMade {D} state old new = (calls : List ℕ) (depot after : Depot D) (a : Act) (b : Answer) → may_step a ≡ true → IsServedBy state calls depot (Some old) a b after (Some new) → MadeStep (request.One a) old new

-- It does so by the state from before the last request, too, where the step of that one was made and not saved.
abbrev pub LeavesUnsaved : {D : Type 0} {G : Ghosts D} → (D → DiskState) → Members D G → Type 0
LeavesUnsaved {D} {G} state new =
    (past : List Record) (start : Option MetaState) (first before now : Depot D) (turns : List Turn) (calls next_calls : List ℕ) (a : Act) (b : Answer) (old : Members D G)
    → Tracks state true past start first before turns (Some old) calls → Tracks state true past start first now (turns ++ line_of a b ∷ []) (Some new) next_calls
    → AreMembersOf state new.net.replicas → MadeStep (request.One a) old new
    → AllSlotsStand state (past ++ record_with start turns (Some (request.One a)) ∷ []) (Some old.net.state) (held_after (Some new) now.held)

-- The last turn may be counted as a request that got no answer.
abbrev pub LastTurnMayBeOpen : {D : Type 0} → (D → DiskState) → Type 0
LastTurnMayBeOpen {D} state =
    (past : List Record) (start : Option MetaState) (turns : List Turn) (a : Act) (b : Answer) (left : Option MetaState) (held : DiskSlot → Held D)
    → AllSlotsStand state (past ++ record_with start (turns ++ line_of a b ∷ []) None ∷ []) left held → AllSlotsStand state (past ++ record_with start turns (Some (request.One a)) ∷ []) left held
