-- Lines of several lists that are done side by side: each list is told by events of its own, among which those of the other lists may stand.
use Rattle.std.specs.Prelude.{◌≡◌, ◌⊎◌, ◌≤◌, ◌<◌, ℕ, List, [], ◌∷◌, ◌++◌, length, Option, Some}
use Rattle.transcripts.specs.Placements.{printed}
use Rattle.transcripts.specs.Record.{TurnPosition, IsTurnPosition, lists_of, IsLastTurnPosition}
use Rattle.m3_model.specs.declared.placement.Placement.{Placement}
use Rattle.m3_model.specs.declared.rules.MetaState.{MetaState}
use Rattle.m3_model.specs.declared.turn.Turn.{Turn}
use Rattle.cluster_core.specs.Lists.{At}
use Rattle.cluster_core.specs.declared.event.Event.{Event}
use Rattle.told_by.specs.Spans.{Spans, IsOfTurn}
use Rattle.told_by.specs.Told.{Tells}

-- the turn stands in this list of the line
pub record IsListPosition (turns : List Turn) (line : Turn) (list : ℕ) (p : TurnPosition) : Type 0 where
  pub position : IsLastTurnPosition turns line p
  pub list_is : length position.stands.front ≡ list

-- the events past these that the list made
abbrev pub MadeBy : List Event → (ℕ → ℕ) → ℕ → ℕ → Type 0
MadeBy events list_of list i = (length events ≤ i) × (list_of i ≡ list)

-- the events that a line adds are made by its lists, and those of each list tell of its turns
pub record TellsLists (start : Option MetaState) (turns : List Turn) (events : List Event) (line : Turn) (more : List Event) : Type 0 where
  pub opened : (0 < length events) ⊎ (more ≡ [])
  pub list_of : ℕ → ℕ
  pub of_some : (i : ℕ) (e : Event) → length events ≤ i → At (events ++ more) i e → IsOfTurn e → list_of i < length (lists_of line)
  pub spans : ℕ → Spans
  pub makers : ℕ → ℕ → TurnPosition
  pub each : (list : ℕ) → list < length (lists_of line) → Tells start (turns ++ line ∷ []) (IsListPosition turns line list) (length events) (MadeBy events list_of list) (events ++ more) (spans list) (makers list)
  pub not_earlier : (p q : TurnPosition) → IsTurnPosition turns p → IsLastTurnPosition turns line q → (was is : Placement) → printed p.turn.answer ≡ Some was → printed q.turn.answer ≡ Some is → was.version ≤ is.version

-- ---- one list, call by call

-- the turn is this call of this list of the line
pub record IsCallPosition (turns : List Turn) (line : Turn) (list number : ℕ) (p : TurnPosition) : Type 0 where
  pub position : IsListPosition turns line list p
  pub number_is : length p.earlier ≡ number

-- the events past these that the call made
abbrev pub MadeByCall : List Event → (ℕ → ℕ) → (ℕ → ℕ) → ℕ → ℕ → ℕ → Type 0
MadeByCall events list_of number_of list number i = MadeBy events list_of list i × (number_of i ≡ number)

-- the events of a list are made by its calls, one after the other, and those of each call tell of it
pub record TellsCalls (start : Option MetaState) (turns : List Turn) (events : List Event) (line : Turn) (more : List Event) (list_of : ℕ → ℕ) (list : ℕ) : Type 0 where
  pub opened : (0 < length events) ⊎ (more ≡ [])
  pub count : ℕ
  pub whole : (p : TurnPosition) → IsListPosition turns line list p → length p.earlier < count
  pub number_of : ℕ → ℕ
  pub of_some : (i : ℕ) (e : Event) → MadeBy events list_of list i → At (events ++ more) i e → IsOfTurn e → number_of i < count
  pub spans : ℕ → Spans
  pub makers : ℕ → ℕ → TurnPosition
  pub each : (number : ℕ) → number < count
      → Tells start (turns ++ line ∷ []) (IsCallPosition turns line list number) (length events) (MadeByCall events list_of number_of list number) (events ++ more) (spans number) (makers number)
  pub in_order : (p q : TurnPosition) (m n : ℕ) → IsCallPosition turns line list m p → IsCallPosition turns line list n q → m < n → (spans m).to p ≤ (spans n).from q
  pub not_earlier : (p q : TurnPosition) (m n : ℕ) → IsCallPosition turns line list m p → IsCallPosition turns line list n q → m < n
      → (was is : Placement) → printed p.turn.answer ≡ Some was → printed q.turn.answer ≡ Some is → was.version ≤ is.version

-- the stretches of the calls, and who made which event
abbrev pub call_spans : (ℕ → Spans) → Spans
call_spans spans = record { from = λ p. (spans (length p.earlier)).from p; to = λ p. (spans (length p.earlier)).to p }

abbrev pub call_makers : (ℕ → ℕ) → (ℕ → ℕ → TurnPosition) → ℕ → TurnPosition
call_makers number_of makers i = makers (number_of i) i
