-- What a line adds to what is known of a run, and that it goes on line by line.
use Rattle.std.specs.Prelude.{◌≡◌, ◌≢◌, ◌⊎◌, ◌≤◌, ◌+◌, ◌*◌, ℕ, List, [], ◌∷◌, ◌++◌, length, take, Option, Some, None, Bool, true, false, if◌then◌else◌, nat_lt}
use Rattle.m3_model.specs.Members.{IsIn}
use Rattle.m3_model.specs.declared.act.Act.{Act}
use Rattle.m3_model.specs.declared.answer.Answer.{Answer}
use Rattle.m3_model.specs.declared.limits.TheConstants.{MOST_REQUEST_EVENTS}
use Rattle.m3_model.specs.declared.placement.Placement.{Placement}
use Rattle.m3_model.specs.declared.point.Point.{Point}
use Rattle.m3_model.specs.declared.reason.Reason.TheVariants as reason
use Rattle.m3_model.specs.declared.rules.MetaState.{MetaState}
use Rattle.m3_model.specs.declared.turn.Request.{Request}
use Rattle.m3_model.specs.declared.turn.Turn.{Turn}
use Rattle.placement_core.specs.Lawful.{IsLawful}
use Rattle.cluster_core.specs.Earlier.{last_place}
use Rattle.cluster_core.specs.Lists.{At}
use Rattle.cluster_core.specs.Replicas.{replica}
use Rattle.cluster_core.specs.declared.event.Event.{Event}
use Rattle.cluster_core.specs.declared.event.Event.TheVariants as event
use Rattle.cluster_core.specs.declared.event.StepCall.TheVariants as call
use Rattle.cluster_core.specs.declared.event.StepReply.{StepReply}
use Rattle.cluster_core.specs.declared.event.StepReply.TheVariants as reply
use Rattle.transcripts.specs.Caused.{IsRefusedWhole, acts_in}
use Rattle.transcripts.specs.Deliveries.{LateMessage, IsSameMessage, IsSamePosition}
use Rattle.transcripts.specs.Faults.{AreDifferent, Fault, Taking}
use Rattle.transcripts.specs.Moves.{IsLeftFence}
use Rattle.transcripts.specs.Placements.{has_replica, printed}
use Rattle.transcripts.specs.Record.{InnerTurn, Life, Record, TurnPosition, IsTurnPosition, IsLastTurnPosition, line_of, lists_of}
use Rattle.told_by.specs.Hears.{InStretch}
use Rattle.told_by.specs.Lines.{position_after}
use Rattle.told_by.specs.Spans.{IsWithin, Spans}
use Rattle.told_by.specs.Told.{TellsLine, ToldBy}
use Rattle.told_causes.specs.Standing.{IsHaltAct}
use Rattle.told_runs.specs.Answers.{Delivers, HearsOf, IsAnswered}
use Rattle.told_runs.specs.Bounds.{writes_taken}
use Rattle.told_runs.specs.Laws.{IsServedRun}

-- the event is one that the line adds
abbrev pub Adds : List Event → List Event → ℕ → Event → Type 0
Adds events more i e = (length events ≤ i) × At (events ++ more) i e

-- ---- the order

-- the line adds one Place at most, of a lawful placement, and ends tenures only where the placement that stands has no replica of the slot
pub record AddsInOrder (events more : List Event) : Type 0 where
  pub lawful : (i : ℕ) (place : Placement) (done : List (ℕ × ℕ)) → Adds events more i (event.Place place done) → IsLawful place
  pub one : (i : ℕ) (place : Placement) (done : List (ℕ × ℕ)) → Adds events more i (event.Place place done) → last_place (events ++ more) ≡ Some place
  pub ends : (i node shard : ℕ) (a : StepReply) → Adds events more i (event.Step node shard call.End a) → (place : Placement) → last_place (take i (events ++ more)) ≡ Some place → has_replica (Some place) shard node ≡ false

-- the line has one turn
abbrev pub IsOneTurn : Turn → Type 0
IsOneTurn line = (turn : InnerTurn) × (lists_of line ≡ (turn ∷ []) ∷ [])

-- a turn of the line prints the placement, and the position lies within its stretch
pub record IsPrintedBy (turns : List Turn) (line : Turn) (spans : Spans) (i : ℕ) (place : Placement) : Type 0 where
  pub printer : TurnPosition
  pub here : IsLastTurnPosition turns line printer
  pub within : IsWithin spans printer i
  pub prints : printed printer.turn.answer ≡ Some place

-- The line is served in order: one that stops or restarts a node has one turn; one of one turn adds one Place at most, and in any other each Place is printed by a
-- turn in whose stretch it stands; each is a lawful placement; and tenures end only where the placement that stands has no replica of the slot.
pub record IsNextInOrder (turns : List Turn) (events : List Event) (line : Turn) (more : List Event) (spans : Spans) : Type 0 where
  pub halts : (q : TurnPosition) → IsLastTurnPosition turns line q → IsHaltAct q.turn.act → lists_of line ≡ (q.turn ∷ []) ∷ []
  pub alone : IsOneTurn line → (i : ℕ) (place : Placement) (done : List (ℕ × ℕ)) → Adds events more i (event.Place place done) → last_place (events ++ more) ≡ Some place
  pub beside : ¬ IsOneTurn line → (i : ℕ) (place : Placement) (done : List (ℕ × ℕ)) → Adds events more i (event.Place place done) → IsPrintedBy turns line spans i place
  pub lawful : (i : ℕ) (place : Placement) (done : List (ℕ × ℕ)) → Adds events more i (event.Place place done) → IsLawful place
  pub ends : (i node shard : ℕ) (a : StepReply) → Adds events more i (event.Step node shard call.End a) → (place : Placement) → last_place (take i (events ++ more)) ≡ Some place → has_replica (Some place) shard node ≡ false

-- ---- files

-- the fence with which a slot first begins is its tenure, or isn't above the version that the run found, and no slot's first begin is refused as not owned
pub record OpensNext (start : Option MetaState) (events more : List Event) : Type 0 where
  pub fenced : (i node shard tenure fence : ℕ) (points : List Point) → Adds events more i (event.Step node shard (call.Begin tenure) (reply.Began fence points)) → (replica node shard (take i (events ++ more))).begun ≡ [] → (fence ≡ tenure) ⊎ IsLeftFence start fence
  pub owned : (i node shard tenure : ℕ) → Adds events more i (event.Step node shard (call.Begin tenure) (reply.Refused reason.NotOwned)) → (replica node shard (take i (events ++ more))).begun ≢ []

-- ---- answers

-- the late messages that each turn delivers: as before, and as the added line does
abbrev pub delivered_on : List Turn → (TurnPosition → List LateMessage) → (TurnPosition → List LateMessage) → TurnPosition → List LateMessage
delivered_on turns was now p = if nat_lt (length p.lines) (length turns) then was p else now p

-- Each answer of the line is decided, its turns deliver messages that none before delivered, each once; a `par` line is refused as a whole only where no placement
-- stands; and these disks couldn't be taken in it.
pub record AreNextAnswers (untaken : List Fault) (now was : TurnPosition → List LateMessage) (start : Option MetaState) (turns : List Turn) (events : List Event) (line : Turn) (spans : Spans) : Type 0 where
  pub each : (p : TurnPosition) → IsLastTurnPosition turns line p → IsAnswered untaken start (spans.to p) p
  pub delivers : (p : TurnPosition) → IsLastTurnPosition turns line p → Delivers start events spans p (now p)
  pub not_again : (p q : TurnPosition) → IsLastTurnPosition turns line p → IsTurnPosition turns q → (a b : LateMessage) → IsIn (now p) a → IsIn (was q) b → ¬ IsSameMessage a b
  pub once : (p q : TurnPosition) → IsLastTurnPosition turns line p → IsLastTurnPosition turns line q → (a b : LateMessage) → IsIn (now p) a → IsIn (now q) b → IsSameMessage a b → IsSamePosition p q
  pub whole : IsRefusedWhole start turns line.request line.reply
  pub untaken_are : (fault : Fault) → IsIn untaken fault → (fault.kind ≡ Taking) × (fault.line ≡ length turns)
  pub different : AreDifferent untaken

-- ---- the line

-- A line that is served leaves what is known of the run known.
pub record ServesLine (tells : Bool) (untaken : List Fault) (now was : TurnPosition → List LateMessage) (past : List Record) (start : Option MetaState) (turns : List Turn) (events : List Event) (line : Turn) (more : List Event)
    (adds : TellsLine start turns events line more) : Type 0 where
  pub order : IsNextInOrder turns events line more adds.spans
  pub opens : tells ≡ true → OpensNext start events more
  pub answers : AreNextAnswers untaken now was start turns (events ++ more) line adds.spans
  pub bound : tells ≡ true → length (events ++ more) ≤ length events + (MOST_REQUEST_EVENTS * length (acts_in (line ∷ []))) * (writes_taken past (turns ++ line ∷ []) + 1)

abbrev pub life_of : List Record → Option MetaState → List Turn → Option Request → Life
life_of past start turns unanswered = record { past = past; present = record { start = start; turns = turns; unanswered = unanswered } }

-- the events tell of the run, and this is known of it
abbrev pub IsToldAndServed : Bool → List Fault → (TurnPosition → List LateMessage) → List Record → Option MetaState → List Turn → Option Request → List Event → Type 0
IsToldAndServed tells taking delivered past start turns unanswered events = (told : ToldBy start turns events) × IsServedRun tells taking delivered (life_of past start turns unanswered) events told

-- A run that is told and served stays so by a line that its events tell of and that is served so.
abbrev pub IsServedLineByLine : Bool → Type 0
IsServedLineByLine tells =
    (past : List Record) (start : Option MetaState) (turns : List Turn) (unanswered next : Option Request) (events : List Event) (line : Turn) (more : List Event) (untaken taking : List Fault) (now was : TurnPosition → List LateMessage)
    → IsToldAndServed tells taking was past start turns unanswered events → (adds : TellsLine start turns events line more) → ServesLine tells untaken now was past start turns events line more adds
    → IsToldAndServed tells (untaken ++ taking) (delivered_on turns was now) past start (turns ++ line ∷ []) next (events ++ more)

-- What a line outside `par` says: its turn is its only one, and its stretch has all that the line adds.
pub record ServesOne (tells : Bool) (untaken : List Fault) (messages : List LateMessage) (was : TurnPosition → List LateMessage) (past : List Record) (start : Option MetaState) (turns : List Turn) (events : List Event) (a : Act) (b : Answer)
    (more : List Event) : Type 0 where
  pub adds : AddsInOrder events more
  pub opens : tells ≡ true → OpensNext start events more
  pub answered : IsAnswered untaken start (length (events ++ more)) (position_after turns a b)
  pub delivers : HearsOf start (InStretch (events ++ more) (length events) (length (events ++ more))) (position_after turns a b) messages b
  pub not_again : (q : TurnPosition) → IsTurnPosition turns q → (x y : LateMessage) → IsIn messages x → IsIn (was q) y → ¬ IsSameMessage x y
  pub untaken_are : (fault : Fault) → IsIn untaken fault → (fault.kind ≡ Taking) × (fault.line ≡ length turns)
  pub different : AreDifferent untaken
  pub bound : tells ≡ true → length (events ++ more) ≤ length events + (MOST_REQUEST_EVENTS * length (acts_in (line_of a b ∷ []))) * (writes_taken past (turns ++ line_of a b ∷ []) + 1)

-- So a run that is told and served stays so by a line of a kind that says what events tell of it.
abbrev pub KindServes : (Option MetaState → List Turn → List Event → Act → Answer → List Event → Type 0) → Bool → Type 0
KindServes Kind tells =
    (past : List Record) (start : Option MetaState) (turns : List Turn) (unanswered next : Option Request) (events : List Event) (a : Act) (b : Answer) (more : List Event) (untaken taking : List Fault) (messages : List LateMessage) (was : TurnPosition → List LateMessage)
    → IsToldAndServed tells taking was past start turns unanswered events → Kind start turns events a b more → ServesOne tells untaken messages was past start turns events a b more
    → IsToldAndServed tells (untaken ++ taking) (delivered_on turns was (λ p. messages)) past start (turns ++ line_of a b ∷ []) next (events ++ more)

-- A run that found nothing is so before its first line.
abbrev pub IsServedAtFirst : Bool → Type 0
IsServedAtFirst tells = (past : List Record) (unanswered : Option Request) → IsToldAndServed tells [] (λ p. []) past None [] unanswered []

-- And so is one that found a state with a lawful placement, by the two events that open it.
abbrev pub IsServedAfresh : Bool → Type 0
IsServedAfresh tells =
    (past : List Record) (state : MetaState) (unanswered : Option Request) → IsLawful state.place → IsToldAndServed tells [] (λ p. []) past (Some state) [] unanswered (event.Place state.place [] ∷ event.Clock state.rules ∷ [])
