-- Lines that leave a run not known to be served.
use Rattle.std.specs.Prelude.{ℕ, List, Option, Some, None, Bool, ◌≢◌, length}
use Rattle.m3_model.specs.Members.{IsIn}
use Rattle.m3_model.specs.declared.answer.Answer.TheVariants as answer
use Rattle.m3_model.specs.declared.placement.Placement.{Placement}
use Rattle.m3_model.specs.declared.rules.MetaState.{MetaState}
use Rattle.m3_model.specs.declared.turn.Turn.{Turn}
use Rattle.cluster_core.specs.declared.event.Event.{Event}
use Rattle.cluster_core.specs.declared.event.Event.TheVariants as event
use Rattle.transcripts.specs.Deliveries.{LateMessage}
use Rattle.transcripts.specs.Faults.{Fault}
use Rattle.transcripts.specs.Placements.{printed}
use Rattle.transcripts.specs.Record.{InnerTurn, Record, TurnPosition, IsLastTurnPosition, IsTurnPosition, line_of}
use Rattle.told_by.specs.Sample.{events as short_events, fetched, turns as short_turns}
use Rattle.told_by.specs.Told.{TellsLine}
use Rattle.told_runs.specs.Lines.{Adds, ServesLine}

-- no such line is served, after whatever lines and whatever it adds
abbrev pub IsNeverServed : (List Fault → (TurnPosition → List LateMessage) → (TurnPosition → List LateMessage) → List Turn → List Event → Turn → List Event → Type 0) → Type 0
IsNeverServed Such =
    (tells : Bool) (untaken : List Fault) (now was : TurnPosition → List LateMessage) (past : List Record) (start : Option MetaState) (turns : List Turn) (events : List Event) (line : Turn) (more : List Event)
    (adds : TellsLine start turns events line more) → ServesLine tells untaken now was past start turns events line more adds → Such untaken now was turns events line more → ⊥

-- a late message is delivered again
pub record DeliversAgain (untaken : List Fault) (now was : TurnPosition → List LateMessage) (turns : List Turn) (events : List Event) (line : Turn) (more : List Event) : Type 0 where
  pub p : TurnPosition
  pub here : IsLastTurnPosition turns line p
  pub q : TurnPosition
  pub before : IsTurnPosition turns q
  pub message : LateMessage
  pub delivers : IsIn (now p) message
  pub delivered : IsIn (was q) message

-- a disk is told of that couldn't be taken in another line
pub record TakesElsewhere (untaken : List Fault) (now was : TurnPosition → List LateMessage) (turns : List Turn) (events : List Event) (line : Turn) (more : List Event) : Type 0 where
  pub fault : Fault
  pub among : IsIn untaken fault
  pub elsewhere : fault.line ≢ length turns

-- a Place is made in a line where turns stand beside each other, and none of them prints it
pub record PlacesBeside (untaken : List Fault) (now was : TurnPosition → List LateMessage) (turns : List Turn) (events : List Event) (line : Turn) (more : List Event) : Type 0 where
  pub q : TurnPosition
  pub here : IsLastTurnPosition turns line q
  pub other : InnerTurn
  pub beside : IsIn q.beside other
  pub place_at : ℕ
  pub place : Placement
  pub done : List (ℕ × ℕ)
  pub made : Adds events more place_at (event.Place place done)
  pub unprinted : (p : TurnPosition) → IsLastTurnPosition turns line p → printed p.turn.answer ≢ Some place

-- After the short run a read isn't refused for its order: its namespace and a placement stand.
abbrev pub UndueOrder : Type 0
UndueOrder =
    (tells : Bool) (untaken : List Fault) (now was : TurnPosition → List LateMessage) (past : List Record) (more : List Event) (adds : TellsLine None short_turns short_events (line_of fetched answer.Order) more)
    → ServesLine tells untaken now was past None short_turns short_events (line_of fetched answer.Order) more adds → ⊥
