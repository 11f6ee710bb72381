-- From what each line's law says to what is tracked: what came to the list tells of the line and serves it.
use Rattle.std.specs.Prelude.{ℕ, List, [], Bool, Option, None}
use Rattle.m3_model.specs.Members.{IsIn}
use Rattle.m3_model.specs.declared.act.Act.{Act}
use Rattle.m3_model.specs.declared.answer.Answer.{Answer}
use Rattle.m3_model.specs.declared.rules.MetaState.{MetaState}
use Rattle.m3_model.specs.declared.turn.Turn.{Turn}
use Rattle.m3_outside.specs.declared.disk.Disk.{Ghosts}
use Rattle.cluster_core.specs.declared.event.Event.{Event}
use Rattle.cluster_core.specs.declared.event.Event.TheVariants as event
use Rattle.cluster_core.specs.declared.event.StepCall.{StepCall}
use Rattle.cluster_core.specs.declared.event.StepReply.{StepReply}
use Rattle.node_calls.specs.session_net.Runs.{slot_at}
use Rattle.node_calls.specs.session_net.declared.net.Net.{Net}
use Rattle.transcripts.specs.Deliveries.{LateMessage}
use Rattle.transcripts.specs.Faults.{Fault}
use Rattle.transcripts.specs.Record.{Record, TurnPosition}
use Rattle.line_tracks.specs.calls.Laws.{IsNotRefused, Kind, LeavesLine, LeavesServed}
use Rattle.line_tracks.specs.calls.Left.{WereDelivered}
use Rattle.node_calls.specs.cluster_members.declared.members.Members.{Members}
use Rattle.line_tracks.specs.acts.Stands.{HasSlots}
use Rattle.line_tracks.specs.acts.Inits.{LeavesAnew}
use Rattle.line_tracks.specs.tracks.Failures.{OnlyReplicasStep}
use Rattle.line_tracks.specs.tracks.Steps.{AddsLine}

-- where no refusal was due
abbrev pub CallAdds : {D : Type 0} {G : Ghosts D} → Kind → Net D G → Type 0
CallAdds {D} {G} Line old =
    (tells : Bool) (past : List Record) (start : Option MetaState) (turns : List Turn) (messages : List LateMessage) (was : TurnPosition → List LateMessage) (a : Act) (b : Answer) (new : Net D G) → WereDelivered turns was → IsNotRefused start turns a b → LeavesLine Line start turns messages old a b new
    → AddsLine Line tells past start [] messages was turns old.replicas.events a b new.replicas.events

-- whatever refusal was due
abbrev pub ServedAdds : Kind → Type 0
ServedAdds Line =
    (tells : Bool) (past : List Record) (start : Option MetaState) (turns : List Turn) (messages : List LateMessage) (was : TurnPosition → List LateMessage) (events : List Event) (a : Act) (b : Answer) (later : List Event) → WereDelivered turns was → LeavesServed Line start turns messages events a b later
    → AddsLine Line tells past start [] messages was turns events a b later

-- of an `init` where no list was
abbrev pub AnewAdds : Kind → Type 0
AnewAdds Line =
    (tells : Bool) (past : List Record) (untaken : List Fault) (turns : List Turn) (was : TurnPosition → List LateMessage) (a : Act) (b : Answer) (more : List Event) → WereDelivered turns was → LeavesAnew Line tells untaken turns a b more → AddsLine Line tells past None untaken [] was turns [] a b more

-- Each step that came is of one of the cluster's slots.
abbrev pub StepsAreOfSlots : {D : Type 0} {G : Ghosts D} → Members D G → Type 0
StepsAreOfSlots {D} {G} m = (more : List Event) → HasSlots m → OnlyReplicasStep m.net.replicas more → (n s : ℕ) (c : StepCall) (r : StepReply) → IsIn more (event.Step n s c r) → IsIn m.slots.items (slot_at n s)
