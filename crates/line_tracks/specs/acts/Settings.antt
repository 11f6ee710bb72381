-- Lines that are refused, that are given up, or that set the rules or the fates: the list tells of each, and serves it.
use Rattle.std.specs.Prelude.{◌≡◌, ◌≤◌, ℕ, ◌+◌, List, [], ◌∷◌, ◌++◌, Option, Some}
use Rattle.m3_model.specs.declared.act.Act.{Act}
use Rattle.m3_model.specs.declared.act.Act.TheVariants as act
use Rattle.m3_model.specs.declared.act.Fate.{Fate}
use Rattle.m3_model.specs.declared.act.WriteLevel.{WriteLevel}
use Rattle.m3_model.specs.declared.answer.Answer.{Answer}
use Rattle.m3_model.specs.declared.answer.Answer.TheVariants as answer
use Rattle.m3_model.specs.declared.limits.TheConstants.{MOST_REQUEST_EVENTS}
use Rattle.m3_model.specs.declared.point.Point.{Point}
use Rattle.m3_model.specs.declared.rules.MetaState.{MetaState}
use Rattle.m3_model.specs.declared.rules.Space.{Space}
use Rattle.m3_model.specs.declared.turn.Turn.{Turn}
use Rattle.m3_outside.specs.DiskState.{DiskState}
use Rattle.m3_outside.specs.declared.disk.Disk.{Ghosts}
use Rattle.cluster_core.specs.declared.event.Event.{Event}
use Rattle.net_plan.specs.Fates.{Item, fates_of}
use Rattle.node_calls.specs.replica_exchange.MachineCalls.{HasRoom}
use Rattle.node_calls.specs.replica_exchange.declared.call_id.CallId.{CallId}
use Rattle.node_calls.specs.session_net.Deliveries.{IsUndelivered}
use Rattle.node_calls.specs.session_net.Ready.{IsCallable}
use Rattle.node_calls.specs.session_net.Writes.{IsRefused}
use Rattle.node_calls.specs.session_net.declared.net.Net.{Net}
use Rattle.node_calls.specs.session_net.declared.session_err.SessionErr.TheVariants as err
use Rattle.told_runs.specs.told_by.Lines.{ClockLine, PlainLine}
use Rattle.transcripts.specs.Record.{line_of}
use Rattle.line_tracks.specs.calls.Laws.{Kind, LeavesServed}
use Rattle.node_calls.specs.cluster_members.Names.{AreNumbered}
use Rattle.node_calls.specs.cluster_members.Steps.{IsMoved, IsSpaceAdded}
use Rattle.node_calls.specs.cluster_members.declared.members.Members.{Members}
use Rattle.line_tracks.specs.acts.Due.{IsDueNext}
use Rattle.line_tracks.specs.acts.Quiet.{DeliversNone, SetsNone}
use Rattle.line_tracks.specs.acts.Stands.{ClusterStands}

-- ---- refusals that are due

-- nothing came to the list, which tells of the line; the turn sets and delivers nothing
pub record LeavesNothing (start : Option MetaState) (turns : List Turn) (events : List Event) (a : Act) (b : Answer) : Type 0 where
  pub line : LeavesServed PlainLine start turns [] events a b events
  pub sets_none : SetsNone b
  pub delivers_none : DeliversNone b

-- where the refusal that is due was answered
abbrev pub RefusedTells : Type 0
RefusedTells = (start : Option MetaState) (turns : List Turn) (events : List Event) (a : Act) (b : Answer) → IsDueNext start turns a b (Some b) → LeavesNothing start turns events a b

-- ---- no room

-- where the list lacked room for so many more events
abbrev pub NoRoomTells : Type 0
NoRoomTells = (start : Option MetaState) (turns : List Turn) (events : List Event) (a : Act) (n : ℕ) → n + 2 ≤ MOST_REQUEST_EVENTS → ¬ HasRoom n events → LeavesNothing start turns events a answer.Full

-- and for what a write adds, or a delivery
abbrev pub FullWriteTells : {D : Type 0} {G : Ghosts D} → (D → DiskState) → Net D G → Type 0
FullWriteTells {D} {G} state net =
    (start : Option MetaState) (turns : List Turn) (a : Act) (id : CallId) (point : Point) (level : WriteLevel) (new : Net D G) → IsCallable net.state net.replicas net.bag → IsRefused state net id point level new err.Full → LeavesNothing start turns net.replicas.events a answer.Full

abbrev pub FullDeliveryTells : {D : Type 0} {G : Ghosts D} → Net D G → Type 0
FullDeliveryTells {D} {G} net = (start : Option MetaState) (turns : List Turn) (a : Act) (new : Net D G) → IsUndelivered net new err.Full → LeavesNothing start turns net.replicas.events a answer.Full

-- ---- rules and fates

-- the turn's line is told and served, and the cluster stands after it
pub record GoesOn {D : Type 0} {G : Ghosts D} (Line : Kind) (start : Option MetaState) (turns : List Turn) (old : Members D G) (a : Act) (b : Answer) (new : Members D G) : Type 0 where
  pub line : LeavesServed Line start turns [] old.net.replicas.events a b new.net.replicas.events
  pub stands : ClusterStands start (turns ++ line_of a b ∷ []) new

-- the namespace of an act
abbrev pub space_of : List ℕ → ℕ → ℕ → ℕ → ℕ → Space
space_of name block past future retention = record { name = name; block = block; past = past; future = future; retention = retention }

-- a namespace was made
abbrev pub NamedTells : {D : Type 0} {G : Ghosts D} → (D → DiskState) → Members D G → Type 0
NamedTells {D} {G} state old =
    (start : Option MetaState) (turns : List Turn) (name : List ℕ) (block past future retention : ℕ) (new : Members D G) → ClusterStands start turns old → IsSpaceAdded state old (space_of name block past future retention) answer.Done new
    → GoesOn ClockLine start turns old (act.Namespace name block past future retention) answer.Done new

-- the moment moved on
abbrev pub MovedTells : {D : Type 0} {G : Ghosts D} → (D → DiskState) → Members D G → Type 0
MovedTells {D} {G} state old =
    (start : Option MetaState) (turns : List Turn) (now : ℕ) (new : Members D G) → ClusterStands start turns old → IsMoved state old now answer.Done new → GoesOn ClockLine start turns old (act.Now now) answer.Done new

-- all but the fates stays, and these are the list's, with the numbers of the nodes in place of their names
pub record SetsFates {D : Type 0} {G : Ghosts D} (list : List (ℕ × ℕ × List ℕ × Fate)) (old new : Members D G) : Type 0 where
  pub items : List Item
  pub numbered : AreNumbered old.net.state.place.instances list items
  pub fates : new.net.fates ≡ fates_of items
  pub state : new.net.state ≡ old.net.state
  pub replicas : new.net.replicas ≡ old.net.replicas
  pub bag : new.net.bag ≡ old.net.bag
  pub slots : new.slots.items ≡ old.slots.items
  pub past : new.past.items ≡ old.past.items
  pub stopped : new.stopped.items ≡ old.stopped.items

-- fates were set
abbrev pub FatesTell : {D : Type 0} {G : Ghosts D} → Members D G → Type 0
FatesTell {D} {G} old =
    (start : Option MetaState) (turns : List Turn) (list : List (ℕ × ℕ × List ℕ × Fate)) (new : Members D G) → ClusterStands start turns old → SetsFates list old new → GoesOn PlainLine start turns old (act.Fates list) answer.Done new
