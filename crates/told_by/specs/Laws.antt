-- What is so of all that is told.
use Rattle.transcripts.specs.Record.{line_of}
use Rattle.std.specs.Prelude.{List, [], ◌∷◌, ◌++◌, ◌≡◌, ◌⊎◌, ◌≤◌, ◌+◌, length, take, ℕ, Option, Some, None, true, Bool}
use Rattle.m3_model.specs.Ascends.{Ascends}
use Rattle.m3_model.specs.Members.{IsIn}
use Rattle.transcripts.specs.Kept.{Kept}
use Rattle.transcripts.specs.Placements.{placement_after, placements, printed, start_placement}
use Rattle.transcripts.specs.Record.{Life, Record, TurnPosition, IsTurnPosition, inner_turns}
use Rattle.m3_model.specs.declared.placement.Placement.{Placement}
use Rattle.placement_core.specs.Majorities.{IsMajority}
use Rattle.placement_core.specs.NodeNames.{IsNamedBelow}
use Rattle.placement_core.specs.Shards.{Shard, former}
use Rattle.cluster_core.specs.Earlier.{last_place}
use Rattle.m3_model.specs.declared.act.Act.{Act}
use Rattle.m3_model.specs.declared.answer.Answer.{Answer}
use Rattle.m3_model.specs.declared.answer.Answer.TheVariants as answer
use Rattle.m3_model.specs.declared.rules.MetaState.{MetaState}
use Rattle.m3_model.specs.declared.turn.Request.{Request}
use Rattle.m3_model.specs.declared.turn.Turn.{Turn}
use Rattle.cluster_core.specs.Core.{Opening, AgreesWith}
use Rattle.cluster_core.specs.Legal.{Legal}
use Rattle.cluster_core.specs.declared.event.Event.{Event}
use Rattle.cluster_core.specs.declared.event.Event.TheVariants as event
use Rattle.told_by.specs.Acks.{AreAckersCounted}
use Rattle.transcripts.specs.Joined.{IsBootstrapInto, TurnsAvailable}
use Rattle.transcripts.specs.Left.{OpeningStands}
use Rattle.told_by.specs.Leaves.{HoldsAgain, IsLeftState, MayBeOpen}
use Rattle.told_by.specs.Lines.{AreFetched, AreSteps, AreWhole, IsCutShort, IsShardFetched, PrintsPlace}
use Rattle.told_by.specs.Reads.{Asking, Fetched}
use Rattle.told_by.specs.Lists.{IsListPosition, MadeBy, TellsCalls, TellsLists, call_makers, call_spans}
use Rattle.told_by.specs.Told.{Tells, ToldBy, TellsLine}

-- Where a legal list tells of the present run's turns, and its replicas began with what the earlier runs left, the life is kept.
abbrev pub IsKeptWhereTold : Type 0
IsKeptWhereTold =
    (life : Life) (events : List Event) (opening : Opening) → Legal true events → AgreesWith events opening → OpeningStands life.past life.present.start opening
    → ToldBy life.present.start life.present.turns events → Kept life

-- A run that has done nothing is told by the events that open it: none, where it found nothing.
abbrev pub IsToldAtFirst : Type 0
IsToldAtFirst = ToldBy None [] []

-- And by the two events that open it, where it found a state.
abbrev pub IsToldAfresh : Type 0
IsToldAfresh = (state : MetaState) → ToldBy (Some state) [] (event.Place state.place [] ∷ event.Clock state.rules ∷ [])

-- A line whose events are added at the end leaves the run told.
abbrev pub IsToldLineByLine : Type 0
IsToldLineByLine =
    (start : Option MetaState) (turns : List Turn) (events : List Event) (line : Turn) (more : List Event)
    → ToldBy start turns events → TellsLine start turns events line more → ToldBy start (turns ++ line ∷ []) (events ++ more)

-- Empty disks stand for the empty life.
abbrev pub EmptyDisksStand : Type 0
EmptyDisksStand = OpeningStands [] None (λ n s. [])

-- What a kind of line adds tells of it.
abbrev pub LinesTell : (Option MetaState → List Turn → List Event → Act → Answer → List Event → Type 0) → Type 0
LinesTell Kind = (start : Option MetaState) (turns : List Turn) (events : List Event) (a : Act) (b : Answer) (more : List Event) → Kind start turns events a b more → TellsLine start turns events (line_of a b) more

-- The turn is the bootstrap that joined the node to the shard: it led to the next placement, and prints with the shard a majority of the former replicas, by name in the
-- placement that was the last one among so many events. That they run isn't said.
pub record PrintsFormer (events : List Event) (p : TurnPosition) (was next : Placement) (number node : ℕ) (shard : Shard) : Type 0 where
  pub available : List (ℕ × List ℕ)
  pub bootstrap : IsBootstrapInto p next node available
  pub names : List ℕ
  pub printed : IsIn available (number, names)
  pub upto : ℕ
  pub last : Placement
  pub last_is : last_place (take upto events) ≡ Some last
  pub by_name : Ascends (IsNamedBelow last) names
  pub enough : IsMajority was.rf (former shard) names

-- Where a legal list tells of the present run's turns, each node that turned available was joined by such a turn.
abbrev pub IsJoinedWhereTold : Bool → Type 0
IsJoinedWhereTold tells =
    (life : Life) (events : List Event) → Legal tells events → ToldBy life.present.start life.present.turns events
    → (was next : Placement) → IsIn (placements life.present.start (inner_turns life.present.turns)) was → IsIn (placements life.present.start (inner_turns life.present.turns)) next
    → (number node : ℕ) → (turned : TurnsAvailable was next number node) → (p : TurnPosition) × IsTurnPosition life.present.turns p × PrintsFormer events p was next number node turned.shard

-- And each acknowledgement names nodes that count.
abbrev pub AcksCountWhereTold : Bool → Type 0
AcksCountWhereTold tells =
    (start : Option MetaState) (turns : List Turn) (events : List Event) → Legal tells events → ToldBy start turns events
    → (p : TurnPosition) → IsTurnPosition turns p → (nodes : List ℕ) → p.turn.answer ≡ answer.Acks nodes → AreAckersCounted start p nodes

-- In such a run the last Place before a line is the placement that stands there by what was printed.
abbrev pub PlacementsStand : Bool → Type 0
PlacementsStand tells =
    (start : Option MetaState) (turns : List Turn) (events : List Event) → Legal tells events → (told : ToldBy start turns events) → (k : ℕ) → k ≤ length turns
    → last_place (take (told.ends k) events) ≡ placement_after (start_placement start) (inner_turns (take k turns))

-- A run that is told leaves what the next one is to find, also where its last request was taken and got no answer.
abbrev pub StandsAgain : Type 0
StandsAgain =
    (past : List Record) (start : Option MetaState) (turns : List Turn) (unanswered : Option Request) (events more : List Event) (opening : Opening) (left : MetaState) (next : Opening)
    → Legal true (events ++ more) → AgreesWith (events ++ more) opening → OpeningStands past start opening → ToldBy start turns events → ((e : Event) → IsIn more e → MayBeOpen unanswered left.rules e)
    → IsLeftState start turns (events ++ more) left → HoldsAgain (events ++ more) opening left next
    → OpeningStands (past ++ record { start = start; turns = turns; unanswered = unanswered } ∷ []) (Some left) next

-- A line of several lists, each told by its own events, is told.
abbrev pub ListsTell : Type 0
ListsTell =
    (start : Option MetaState) (turns : List Turn) (events : List Event) (line : Turn) (more : List Event) → TellsLists start turns events line more → TellsLine start turns events line more

-- One more shard's fetch behind those so far.
abbrev pub FetchesAdd : Type 0
FetchesAdd =
    (start : Option MetaState) (p : TurnPosition) (a : Asking) (fetches : ℕ → Fetched) (position : ℕ) (shards : List ℕ) (so_far : List Event) (s : ℕ) (own : List Event)
    → AreWhole start p a fetches position shards so_far → IsShardFetched start p a (position + length so_far) s (fetches s) own [] → AreWhole start p a fetches position (shards ++ s ∷ []) (so_far ++ own)

-- And then nothing more, or one that is cut short.
abbrev pub FetchesEnd : Type 0
FetchesEnd =
    (start : Option MetaState) (p : TurnPosition) (a : Asking) (fetches : ℕ → Fetched) (position : ℕ) (shards : List ℕ) (so_far own : List Event)
    → AreWhole start p a fetches position shards so_far → AreSteps own ⊎ IsCutShort start p a own → AreFetched start p a fetches position shards (so_far ++ own)

-- Only the fetches of these shards matter.
abbrev pub FetchesStay : Type 0
FetchesStay =
    (start : Option MetaState) (p : TurnPosition) (a : Asking) (fetches others : ℕ → Fetched) (position : ℕ) (shards : List ℕ) (so_far : List Event)
    → ((s : ℕ) → IsIn shards s → fetches s ≡ others s) → AreWhole start p a fetches position shards so_far → AreWhole start p a others position shards so_far

-- A line that prints the last Place of a legal list prints none before one that was printed.
abbrev pub LastPlacePrints : Bool → Type 0
LastPlacePrints tells =
    (start : Option MetaState) (turns : List Turn) (events : List Event) (b : Answer) (more : List Event) → Legal tells (events ++ more) → ToldBy start turns events
    → ((place : Placement) → printed b ≡ Some place → last_place (events ++ more) ≡ Some place) → PrintsPlace turns (events ++ more) b

-- A list whose calls are told one after the other is told.
abbrev pub CallsTell : Type 0
CallsTell =
    (start : Option MetaState) (turns : List Turn) (events : List Event) (line : Turn) (more : List Event) (list_of : ℕ → ℕ) (list : ℕ) → (calls : TellsCalls start turns events line more list_of list)
    → Tells start (turns ++ line ∷ []) (IsListPosition turns line list) (length events) (MadeBy events list_of list) (events ++ more) (call_spans calls.spans) (call_makers calls.number_of calls.makers)
