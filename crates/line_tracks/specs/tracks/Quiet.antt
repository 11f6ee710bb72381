-- Lines that print no placement, begin no replica, and neither stop nor restart a node: the cluster stands after them.
use Rattle.std.specs.Prelude.{Option, ◌≡◌, ◌≤◌, List, [], ◌∷◌, ◌++◌, length, None, Bool, true}
use Rattle.m3_model.specs.declared.act.Act.{Act}
use Rattle.m3_model.specs.declared.answer.Answer.{Answer}
use Rattle.m3_model.specs.declared.turn.Turn.{Turn}
use Rattle.m3_model.specs.declared.rules.MetaState.{MetaState}
use Rattle.m3_outside.specs.Depots.{Depot, TellAll}
use Rattle.m3_outside.specs.DiskState.{DiskState}
use Rattle.m3_outside.specs.declared.disk.Disk.{Ghosts}
use Rattle.cluster_core.specs.declared.event.Event.{Event}
use Rattle.node_calls.specs.replica_calls.Calls.{AreMembersOf}
use Rattle.node_calls.specs.session_net.Ready.{IsReady}
use Rattle.node_calls.specs.session_net.Runs.{Ran}
use Rattle.told_runs.specs.told_by.Lines.{MakesAndHears}
use Rattle.told_runs.specs.told_by.Makes.{OpensReplicas}
use Rattle.transcripts.specs.Placements.{printed}
use Rattle.transcripts.specs.Record.{Record, line_of}
use Rattle.line_tracks.specs.calls.Left.{NetIsLeftBy}
use Rattle.node_calls.specs.cluster_members.declared.members.Members.{Members}
use Rattle.line_tracks.specs.acts.Quiet.{KeepsStops}
use Rattle.line_tracks.specs.acts.Stands.{KnowsNodes}
use Rattle.line_tracks.specs.acts.Stays.{HaveNoPlace}
use Rattle.line_tracks.specs.acts.Keeps.{BeginsGiven}
use Rattle.line_tracks.specs.tracks.Failures.{OnlyReplicasStep}
use Rattle.line_tracks.specs.tracks.Steps.{StandsOn}
use Rattle.line_tracks.specs.tracks.Tracks.{StandsSo}

-- What a turn makes that prints no placement and begins no replica: no Place and no begin.
abbrev pub QuietTurnsMakeNone : Type 0
QuietTurnsMakeNone =
    (start : Option MetaState) (turns : List Turn) (events : List Event) (a : Act) (b : Answer) (more : List Event) → 2 ≤ length events → MakesAndHears start turns events a b more → printed b ≡ None → (OpensReplicas a → ⊥) → HaveNoPlace more × BeginsGiven events more

-- such a turn's events came, and with them its replicas took steps; the fields are what the turns left, its slots, its placement and its stopped nodes stay
pub record GoesQuietly {D : Type 0} {G : Ghosts D} (state : D → DiskState) (start : Option MetaState) (turns : List Turn) (old : Members D G) (a : Act) (b : Answer) (new : Members D G) : Type 0 where
  pub told : List Event
  pub grew : new.net.replicas.events ≡ old.net.replicas.events ++ told
  pub makes : MakesAndHears start turns old.net.replicas.events a b told
  pub prints : printed b ≡ None
  pub opens : OpensReplicas a → ⊥
  pub halts : KeepsStops a b
  pub more : List Event
  pub ran : Ran state old.net.replicas more new.net.replicas
  pub others : OnlyReplicasStep old.net.replicas more
  pub left : NetIsLeftBy start (turns ++ line_of a b ∷ []) new.net
  pub ready : IsReady new.net.state new.net.replicas new.net.bag
  pub place : new.net.state.place ≡ old.net.state.place
  pub slots : new.slots.items ≡ old.slots.items
  pub past : new.past.items ≡ old.past.items
  pub stopped : new.stopped.items ≡ old.stopped.items
  pub known : KnowsNodes (turns ++ line_of a b ∷ []) new.net.state.place new.net.fates

-- So the cluster goes on.
abbrev pub QuietLinesStandOn : {D : Type 0} {G : Ghosts D} → (D → DiskState) → Members D G → Type 0
QuietLinesStandOn {D} {G} state old =
    (tells : Bool) (past : List Record) (start : Option MetaState) (now : Depot D) (turns : List Turn) (a : Act) (b : Answer) (new : Members D G) → (tells ≡ true → TellAll state) → AreMembersOf state old.net.replicas → StandsSo state tells past start now turns old → GoesQuietly state start turns old a b new
    → StandsOn state tells start turns old a b new
