-- Where the events of a turn stand in a list, and who made which.
use Rattle.std.specs.Prelude.{◌≡◌, ◌⊎◌, ◌≤◌, ◌<◌, ℕ, ⊤, List, [], ◌∷◌, length}
use Rattle.transcripts.specs.Record.{TurnPosition, lists_of}
use Rattle.m3_model.specs.declared.turn.Turn.{Turn}
use Rattle.cluster_core.specs.Lists.{At}
use Rattle.cluster_core.specs.declared.event.Event.{Event}
use Rattle.cluster_core.specs.declared.event.StepCall.{StepCall}
use Rattle.cluster_core.specs.declared.event.StepCall.TheVariants as call
use Rattle.cluster_core.specs.declared.event.Event.TheVariants as event

-- one turn is before another of the run: in an earlier line, or earlier in the same list of one line
abbrev pub IsEarlier : TurnPosition → TurnPosition → Type 0
IsEarlier a b = (length a.lines < length b.lines) ⊎ ((length a.lines ≡ length b.lines) × (a.client ≡ b.client) × (length a.earlier < length b.earlier))

-- the turn is the only one of its line
abbrev pub IsAlone : List Turn → TurnPosition → Type 0
IsAlone turns p = (line : Turn) × At turns (length p.lines) line × (lists_of line ≡ (p.turn ∷ []) ∷ [])

-- The stretch of the list in which a turn's events stand, from one position up to another. Those of turns beside it may stand among them.
pub record Spans : Type 0 where
  pub from : TurnPosition → ℕ
  pub to : TurnPosition → ℕ

abbrev pub IsWithin : Spans → TurnPosition → ℕ → Type 0
IsWithin spans p i = (spans.from p ≤ i) × (i < spans.to p)

-- a replica is stopped, restarted or begun, which only the turn does that asks for it
abbrev pub IsOwnStep : StepCall → Type 0
IsOwnStep call.Stop = ⊤
IsOwnStep call.Restart = ⊤
IsOwnStep (call.Begin tenure) = ⊤
IsOwnStep _ = ⊥

-- an event that a turn makes itself past the first two, which open the list: all but the steps of replicas, and of these the stops, the restarts and the begins
abbrev pub IsOfTurn : Event → Type 0
IsOfTurn (event.Step n s c a) = IsOwnStep c
IsOfTurn (event.Ask asked) = ⊤
IsOfTurn (event.Clock rules) = ⊤
IsOfTurn (event.Place placement done) = ⊤
IsOfTurn (event.Send version s point) = ⊤
IsOfTurn (event.Ack send nodes) = ⊤
IsOfTurn (event.FetchStart version s rules pick from to) = ⊤
IsOfTurn (event.FetchDone start nodes series) = ⊤

-- the events from this position on
abbrev pub From : ℕ → ℕ → Type 0
From low i = low ≤ i

-- Where a turn is before another its events stand before those of the other; and each event has one maker, in whose stretch it stands.
-- It is said of some of a run's turns, whose stretches begin at one position or further on, and of some of the events.
pub record AreOrdered (Here : TurnPosition → Type 0) (low : ℕ) (Mine : ℕ → Type 0) (events : List Event) (spans : Spans) (makers : ℕ → TurnPosition) : Type 0 where
  pub not_below : (p : TurnPosition) → Here p → low ≤ spans.from p
  pub not_above : (p : TurnPosition) → Here p → spans.to p ≤ length events
  pub not_back : (p : TurnPosition) → Here p → spans.from p ≤ spans.to p
  pub order : (p q : TurnPosition) → Here p → Here q → IsEarlier p q → spans.to p ≤ spans.from q
  pub made : (i : ℕ) (e : Event) → Mine i → 2 ≤ i → At events i e → IsOfTurn e → Here (makers i) × IsWithin spans (makers i) i
