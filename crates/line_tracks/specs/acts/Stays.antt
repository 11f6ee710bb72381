-- Lines after which a cluster stands still, and lines after which there is none still.
use Rattle.std.specs.Prelude.{◌≡◌, ⊤, ℕ, List, ◌∷◌, [], ◌++◌, Option, Some, None, false}
use Rattle.m3_model.specs.Members.{IsIn}
use Rattle.m3_model.specs.declared.act.Act.{Act}
use Rattle.m3_model.specs.declared.answer.Answer.{Answer}
use Rattle.m3_model.specs.declared.placement.Placement.{Placement}
use Rattle.m3_model.specs.declared.rules.MetaState.{MetaState}
use Rattle.m3_model.specs.declared.turn.Turn.{Turn}
use Rattle.m3_outside.specs.DiskState.{DiskState}
use Rattle.m3_outside.specs.declared.disk.Disk.{Ghosts}
use Rattle.cluster_core.specs.declared.event.Event.{Event}
use Rattle.cluster_core.specs.declared.event.Event.TheVariants as event
use Rattle.cluster_core.specs.declared.event.StepCall.{StepCall}
use Rattle.cluster_core.specs.declared.event.StepReply.{StepReply}
use Rattle.node_calls.specs.session_net.Ready.{IsReady}
use Rattle.node_calls.specs.session_net.Runs.{Ran, slot_at}
use Rattle.transcripts.specs.Fates.{stopped_by}
use Rattle.transcripts.specs.Placements.{placement_after, printed}
use Rattle.transcripts.specs.Record.{IsTurnPosition, TurnPosition, inner_turns, line_of}
use Rattle.line_tracks.specs.calls.Keeps.{SetsNothing}
use Rattle.line_tracks.specs.calls.Left.{NetIsLeftBy}
use Rattle.node_calls.specs.cluster_members.declared.members.Members.{Members}
use Rattle.line_tracks.specs.acts.Quiet.{DeliversNone, KeepsStops, SetsNone}
use Rattle.line_tracks.specs.acts.Stands.{ClusterStands, KnowsNodes, NoneStands}

-- ---- before an `init`

-- no cluster stands before the first turn
abbrev pub NoneStandsAtFirst : Type 0
NoneStandsAtFirst = NoneStands []

-- nor after one more that sets nothing and stops no node
abbrev pub StaysUnmade : Type 0
StaysUnmade = (turns : List Turn) (a : Act) (b : Answer) → NoneStands turns → SetsNothing a b → ((name : List ℕ) → stopped_by name a b false ≡ false) → NoneStands (turns ++ line_of a b ∷ [])

-- where none stands there is no placement, and no turn printed one
abbrev pub NoneIsPlaced : Type 0
NoneIsPlaced = (turns : List Turn) → NoneStands turns → (placement_after None (inner_turns turns) ≡ None) × ((p : TurnPosition) → IsTurnPosition turns p → printed p.turn.answer ≡ None)

-- ---- a cluster that stands

-- it stands after a line in which nothing changed
abbrev pub StandsUnchanged : {D : Type 0} {G : Ghosts D} → Members D G → Type 0
StandsUnchanged m = (start : Option MetaState) (turns : List Turn) (a : Act) (b : Answer) → ClusterStands start turns m → SetsNone b → DeliversNone b → ClusterStands start (turns ++ line_of a b ∷ []) m

-- the event is no Place
abbrev pub IsNoPlace : Event → Type 0
IsNoPlace (event.Place place done) = ⊥
IsNoPlace _ = ⊤

abbrev pub HaveNoPlace : List Event → Type 0
HaveNoPlace events = (e : Event) → IsIn events e → IsNoPlace e

-- what the answer prints, if anything, is this placement
abbrev pub PrintsNoOther : Placement → Answer → Type 0
PrintsNoOther place b = (other : Placement) → printed b ≡ Some other → other ≡ place

-- A turn that made no placement, steps of slots alone, and what the turns left is left with it: calls may be made, and slots and stopped nodes are as before.
pub record StaysStanding {D : Type 0} {G : Ghosts D} (state : D → DiskState) (start : Option MetaState) (turns : List Turn) (old : Members D G) (a : Act) (b : Answer) (new : Members D G) : Type 0 where
  pub left : NetIsLeftBy start (turns ++ line_of a b ∷ []) new.net
  pub ready : IsReady new.net.state new.net.replicas new.net.bag
  pub place : new.net.state.place ≡ old.net.state.place
  pub prints : PrintsNoOther old.net.state.place b
  pub more : List Event
  pub ran : Ran state old.net.replicas more new.net.replicas
  pub no_place : HaveNoPlace more
  pub of_slots : (n s : ℕ) (c : StepCall) (r : StepReply) → IsIn more (event.Step n s c r) → IsIn old.slots.items (slot_at n s)
  pub slots : new.slots.items ≡ old.slots.items
  pub past : new.past.items ≡ old.past.items
  pub stopped : new.stopped.items ≡ old.stopped.items
  pub halts : KeepsStops a b
  pub known : KnowsNodes (turns ++ line_of a b ∷ []) new.net.state.place new.net.fates

-- then the cluster stands still
abbrev pub StandsStill : {D : Type 0} {G : Ghosts D} → (D → DiskState) → Members D G → Type 0
StandsStill {D} {G} state old = (start : Option MetaState) (turns : List Turn) (new : Members D G) (a : Act) (b : Answer) → ClusterStands start turns old → StaysStanding state start turns old a b new → ClusterStands start (turns ++ line_of a b ∷ []) new
