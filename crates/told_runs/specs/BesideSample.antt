-- A run over a shard that moves: two clients write and read beside a worker whose bootstrap ends the move. It is told by a legal list and is served, so Kept and
-- Caused apply to it.
use Rattle.std.specs.Prelude.{ℕ, List, [], ◌∷◌, ◌++◌, Some, None, Bool}
use Rattle.m3_model.specs.declared.act.Act.{Act}
use Rattle.m3_model.specs.declared.act.Act.TheVariants as act
use Rattle.m3_model.specs.declared.answer.Answer.{Answer}
use Rattle.m3_model.specs.declared.answer.Answer.TheVariants as answer
use Rattle.m3_model.specs.declared.placement.Placement.{Placement}
use Rattle.m3_model.specs.declared.point.Page.{Page}
use Rattle.m3_model.specs.declared.turn.Reply.TheVariants as replies
use Rattle.m3_model.specs.declared.turn.Request.TheVariants as request
use Rattle.m3_model.specs.declared.turn.Turn.{Turn}
use Rattle.cluster_core.specs.Legal.{Legal}
use Rattle.cluster_core.specs.Lists.{At}
use Rattle.cluster_core.specs.declared.event.Asked.TheVariants as asked
use Rattle.cluster_core.specs.declared.event.Event.{Event}
use Rattle.cluster_core.specs.declared.event.Event.TheVariants as event
use Rattle.cluster_core.specs.declared.event.StepCall.{StepCall}
use Rattle.cluster_core.specs.declared.event.StepCall.TheVariants as call
use Rattle.cluster_core.specs.declared.event.StepReply.TheVariants as reply
use Rattle.transcripts.specs.Caused.{Caused}
use Rattle.transcripts.specs.Deliveries.{LateMessage}
use Rattle.transcripts.specs.Faults.{Fault}
use Rattle.transcripts.specs.Kept.{Kept}
use Rattle.transcripts.specs.Record.{TurnPosition, line_of}
use Rattle.told_by.specs.Broken.{found_moving, joined, joining, moved, moving}
use Rattle.told_by.specs.Sample.{fetched, name, point, rules, written}
use Rattle.told_by.specs.Told.{TellsLine, ToldBy}
use Rattle.told_runs.specs.Lines.{IsToldAndServed, ServesLine, life_of}

-- ---- its lines

-- the node that leaves is begun again, so that it can give its points
abbrev pub reopening : Act
reopening = act.Bootstrap name None

abbrev pub reopened : Answer
reopened = answer.Available [] moving 2

abbrev pub lines_before : List Turn
lines_before = line_of reopening reopened ∷ []

-- a write that the joined node took, and a read that came before that: nobody counted then
abbrev pub took : Answer
took = answer.Acks (1 ∷ [])

abbrev pub missed : Answer
missed = answer.Consistency 0 1 [] 0

-- the two clients' lines and the worker's, with what the write and the bootstrap answer
abbrev pub side_by_side : Answer → Answer → Turn
side_by_side wrote bootstrapped =
    record { request = request.Par ((written ∷ []) ∷ (fetched ∷ []) ∷ []) ((joining ∷ []) ∷ []); reply = replies.Par ((wrote ∷ []) ∷ (missed ∷ []) ∷ []) ((bootstrapped ∷ []) ∷ []) }

abbrev pub beside : Turn
beside = side_by_side took joined

abbrev pub turns : List Turn
turns = line_of reopening reopened ∷ beside ∷ []

-- ---- its events

abbrev pub opening : List Event
opening = event.Place moving [] ∷ event.Clock rules ∷ []

abbrev pub of_reopening : List Event
of_reopening = event.Ask (asked.Step 0 0 (call.Begin 1)) ∷ event.Step 0 0 (call.Begin 1) (reply.Began 1 []) ∷ []

abbrev pub events_before : List Event
events_before = opening ++ of_reopening

-- a page of all that the leaving node has, which is nothing
abbrev pub page : Page
page = record { points = []; next = None }

-- the write is the first client's first call, by the placement in which the move is over
abbrev pub put : StepCall
put = call.Put 1 0 rules 3 point

-- the worker begins the joining node, fences the leaving one, streams what it has, and ends the move; then the first client writes
abbrev pub of_both : List Event
of_both =
    event.Ask (asked.Step 1 0 (call.Begin 2))
    ∷ event.Step 1 0 (call.Begin 2) (reply.Began 2 [])
    ∷ event.Ask (asked.Step 0 0 (call.Fence 2))
    ∷ event.Step 0 0 (call.Fence 2) reply.Done
    ∷ event.Ask (asked.Step 0 0 (call.Page None))
    ∷ event.Step 0 0 (call.Page None) (reply.Paged page)
    ∷ event.Ask (asked.Step 1 0 (call.Merge page))
    ∷ event.Step 1 0 (call.Merge page) (reply.Count 0)
    ∷ event.Ask (asked.Place moved ((0, 1) ∷ []))
    ∷ event.Place moved ((0, 1) ∷ [])
    ∷ event.Send 3 0 point
    ∷ event.Ask (asked.Step 1 0 put)
    ∷ event.Step 1 0 put reply.Done
    ∷ event.Ack 14 (1 ∷ [])
    ∷ []

abbrev pub events : List Event
events = events_before ++ of_both

-- ---- what is so of it

abbrev pub none_delivered : TurnPosition → List LateMessage
none_delivered p = []

-- The list is legal, tells of the run, and the run is served.
abbrev pub BesideIsServed : Bool → Type 0
BesideIsServed tells = Legal tells events × (delivered : TurnPosition → List LateMessage) × IsToldAndServed tells [] delivered [] (Some found_moving) turns None events

-- Its replicas began with nothing, as earlier runs left it, so it is kept; and it is caused.
abbrev pub BesideIsKept : Type 0
BesideIsKept = Kept (life_of [] (Some found_moving) turns None) × ((tells : Bool) → (faults : List Fault) × Caused tells (life_of [] (Some found_moving) turns None) faults)

-- ---- broken ones

-- an acknowledgement of the write by the node that leaves: no list tells of that
abbrev pub LeavingAcks : Type 0
LeavingAcks = (events : List Event) → ToldBy (Some found_moving) (line_of reopening reopened ∷ side_by_side (answer.Acks (0 ∷ [])) joined ∷ []) events → ⊥

-- a placement that the line makes, though its bootstrap prints no shard as turned available: over a legal list that is never served
abbrev pub PlacedForNothing : Type 0
PlacedForNothing =
    (tells : Bool) (untaken : List Fault) (now was : TurnPosition → List LateMessage) (next : Placement) (more : List Event) → Legal tells (events_before ++ more)
    → (adds : TellsLine (Some found_moving) lines_before events_before (side_by_side took (answer.Available [] next 3)) more)
    → ServesLine tells untaken now was [] (Some found_moving) lines_before events_before (side_by_side took (answer.Available [] next 3)) more adds
    → (i : ℕ) (place : Placement) (done : List (ℕ × ℕ)) → At more i (event.Place place done) → ⊥
