-- A record's turns are told by a list of events.
use Rattle.std.specs.Prelude.{◌≡◌, ◌≤◌, ◌<◌, ℕ, suc, List, ◌∷◌, [], ◌++◌, length, Option, Some}
use Rattle.transcripts.specs.Placements.{printed}
use Rattle.transcripts.specs.Record.{TurnPosition, IsTurnPosition, IsLastTurnPosition}
use Rattle.m3_model.specs.declared.placement.Placement.{Placement}
use Rattle.m3_model.specs.declared.rules.MetaState.{MetaState}
use Rattle.m3_model.specs.declared.turn.Turn.{Turn}
use Rattle.cluster_core.specs.declared.event.Event.{Event}
use Rattle.told_by.specs.Clocks.{TellsClocks}
use Rattle.told_by.specs.Hears.{TellsHears}
use Rattle.told_by.specs.Makes.{TellsMakes, TellsRestarts}
use Rattle.told_by.specs.Openings.{IsOpenedBy, opening_length, TellsInit}
use Rattle.told_by.specs.Placements.{TellsPlacements}
use Rattle.told_by.specs.Reads.{TellsReads}
use Rattle.told_by.specs.Spans.{Spans, From, AreOrdered}
use Rattle.told_by.specs.Writes.{TellsWrites}

-- These events, whose positions are named, tell of these turns of a run, whose stretches begin at one position or further on.
pub record Tells (start : Option MetaState) (turns : List Turn) (Here : TurnPosition → Type 0) (low : ℕ) (Mine : ℕ → Type 0) (events : List Event) (spans : Spans) (makers : ℕ → TurnPosition) : Type 0 where
  pub order : AreOrdered Here low Mine events spans makers
  pub init : TellsInit start turns Here Mine events spans
  pub writes : TellsWrites start Here Mine events makers
  pub reads : TellsReads start Here Mine events makers
  pub placements : TellsPlacements Here Mine events spans makers
  pub clocks : TellsClocks start turns Here Mine events makers
  pub makes : TellsMakes start Mine events makers
  pub restarts : TellsRestarts Mine events makers
  pub hears : TellsHears start Here events spans

-- the list goes on line by line: a line's events stand behind those of the lines before it, and its turns have their stretches among them
pub record AreLines (start : Option MetaState) (turns : List Turn) (events : List Event) (spans : Spans) (ends : ℕ → ℕ) : Type 0 where
  pub first : ends 0 ≡ opening_length start
  pub last : ends (length turns) ≡ length events
  pub ascends : (k : ℕ) → k < length turns → ends k ≤ ends (suc k)
  pub low : (p : TurnPosition) → IsTurnPosition turns p → ends (length p.lines) ≤ spans.from p
  pub high : (p : TurnPosition) → IsTurnPosition turns p → spans.to p ≤ ends (suc (length p.lines))

-- a run's turns are told by the list
pub record ToldBy (start : Option MetaState) (turns : List Turn) (events : List Event) : Type 0 where
  pub spans : Spans
  pub makers : ℕ → TurnPosition
  pub ends : ℕ → ℕ  -- how many events stand before each line
  pub lines : AreLines start turns events spans ends
  pub opened : (state : MetaState) → start ≡ Some state → IsOpenedBy state events
  pub tells : Tells start turns (IsTurnPosition turns) (opening_length start) (From (opening_length start)) events spans makers

-- the events that a line adds tell of its turns, and it prints no placement before one that was printed
pub record TellsLine (start : Option MetaState) (turns : List Turn) (events : List Event) (line : Turn) (more : List Event) : Type 0 where
  pub spans : Spans
  pub makers : ℕ → TurnPosition
  pub tells : Tells start (turns ++ line ∷ []) (IsLastTurnPosition turns line) (length events) (From (length events)) (events ++ more) spans makers
  pub not_earlier : (p q : TurnPosition) → IsTurnPosition turns p → IsLastTurnPosition turns line q → (was is : Placement) → printed p.turn.answer ≡ Some was → printed q.turn.answer ≡ Some is → was.version ≤ is.version
