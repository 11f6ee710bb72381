-- Why a call's answer is what it is: each reason that it names has its cause, and what replicas took lies within its window.
use Rattle.std.specs.Prelude.{Bool, None, Some, ◌≡◌, ℕ, ⊤, List, length, Option, ℤ, true, IsTrue}
use Rattle.m3_model.specs.Calls.{is_call}
use Rattle.m3_model.specs.declared.act.Act.TheVariants as act
use Rattle.m3_model.specs.declared.act.ReadLevel.{ReadLevel}
use Rattle.m3_model.specs.declared.act.WriteLevel.{WriteLevel}
use Rattle.m3_model.specs.declared.point.Matcher.{Matcher}
use Rattle.m3_model.specs.declared.point.Series.{Series}
use Rattle.m3_model.specs.declared.answer.Answer.TheVariants as answer
use Rattle.m3_model.specs.declared.placement.Placement.{Placement}
use Rattle.m3_model.specs.declared.reason.Reason.{Reason}
use Rattle.m3_model.specs.declared.reason.Reason.TheVariants as reason
use Rattle.m3_model.specs.declared.rules.MetaState.{MetaState}
use Rattle.m3_model.specs.declared.turn.Turn.{Turn}
use Rattle.cluster_core.specs.Legal.{Legal}
use Rattle.cluster_core.specs.declared.event.Event.{Event}
use Rattle.transcripts.specs.Fates.{OfNode}
use Rattle.transcripts.specs.Levels.{AreSilent, IsAcked, IsFoundFor, MissesLevel}
use Rattle.transcripts.specs.Calls.{Call, call_of}
use Rattle.transcripts.specs.Placements.{IsCounted, MayUse}
use Rattle.transcripts.specs.Reasons.{MayFail, MayRefuse, MayServe}
use Rattle.transcripts.specs.Record.{TurnPosition, IsTurnPosition}
use Rattle.transcripts.specs.Rules.{rules_at}
use Rattle.told_by.specs.Hears.{HasServed, HearsShard, InStretch, IsHeard, IsNamedBy}
use Rattle.told_by.specs.Spans.{Spans}
use Rattle.told_by.specs.Told.{ToldBy}
use Rattle.told_causes.specs.Boot.{IsKnownMember}
use Rattle.told_causes.specs.Faults.{faults_told}
use Rattle.told_causes.specs.Standing.{HaltsAlone, WasThere}

-- what explains a reason here: that a replica isn't begun, what is known of a member; that its node doesn't own the shard, or a fence, the moves of the
-- shard, of which more is said elsewhere; every other needs nothing
abbrev pub IsExplained : Type 0 → (Reason → Type 0) → Reason → Type 0
IsExplained Known ByMoves reason.Boot = Known
IsExplained Known ByMoves reason.NotOwned = ByMoves reason.NotOwned
IsExplained Known ByMoves (reason.Stale fence) = ByMoves (reason.Stale fence)
IsExplained Known ByMoves _ = ⊤

-- what happens within the turn's stretch
abbrev pub Within : List Event → Spans → TurnPosition → ℕ → Event → Type 0
Within events spans p = InStretch events (spans.from p) (spans.to p)

-- the node has one name in all placements, and its slot of the shard had a replica by each of its faults
pub record IsSteadyNode (start : Option MetaState) (turns : List Turn) (events : List Event) (told : ToldBy start turns events) (p : TurnPosition) (place : Placement) (shard node : ℕ) : Type 0 where
  pub name : List ℕ
  pub named : OfNode place node (λ own. own ≡ name)
  pub everywhere : IsNamedBy events node name
  pub there : WasThere (faults_told told.ends events (length turns)) start p node shard

-- so is a reason of a replica: what is known of a member is asked where the disks tell what they hold
abbrev pub IsExplainedAt : (tells : Bool) (start : Option MetaState) (turns : List Turn) (events : List Event) → ToldBy start turns events → TurnPosition → Placement → (shard node : ℕ) (name : List ℕ) → Reason → Type 0
IsExplainedAt tells start turns events told p place shard node name why =
    IsExplained (tells ≡ true → IsKnownMember start turns events told p shard node name) (MayFail tells (faults_told told.ends events (length turns)) start p place shard node) why

-- Each reason that a call names for a replica, of those that are explained here, has its cause.
abbrev pub ReasonsAreSaid : Bool → Type 0
ReasonsAreSaid tells =
    (start : Option MetaState) (turns : List Turn) (events : List Event) → Legal tells events → (told : ToldBy start turns events) → (p : TurnPosition) → IsTurnPosition turns p → IsTrue (is_call p.turn.act)
    → (place : Placement) (shard node : ℕ) → (steady : IsSteadyNode start turns events told p place shard node) → (why : Reason) → IsExplainedAt tells start turns events told p place shard node steady.name why
    → IsHeard start (Within events told.spans p) p place shard node why → MayRefuse tells (faults_told told.ends events (length turns)) start p place shard node why

-- Where a replica did as a write asks, the write's point is one that is taken at this moment.
abbrev pub ServedIsTaken : Bool → Type 0
ServedIsTaken tells =
    (start : Option MetaState) (turns : List Turn) (events : List Event) → Legal tells events → (told : ToldBy start turns events) → (p : TurnPosition) → IsTurnPosition turns p
    → (place : Placement) (shard node : ℕ) → HasServed start (Within events told.spans p) p place shard node → MayServe (rules_at start p) p.turn.act

-- the node has one name, in this placement and in all others
abbrev pub IsNamedOnce : List Event → Placement → ℕ → Type 0
IsNamedOnce events place node = (name : List ℕ) × OfNode place node (λ own. own ≡ name) × IsNamedBy events node name

-- a placement that the turn's call may use
pub record IsUsedBy (start : Option MetaState) (p : TurnPosition) (place : Placement) : Type 0 where
  pub call : Call
  pub of_act : call_of p.turn.act ≡ Some call
  pub may_use : MayUse start p call.version place

-- so have the nodes of replicas that did as the call asks
abbrev pub ServedAreNamed : Option MetaState → List Event → Spans → TurnPosition → Type 0
ServedAreNamed start events spans p = (place : Placement) → IsUsedBy start p place → (shard node : ℕ) → HasServed start (Within events spans p) p place shard node → IsNamedOnce events place node

-- each reason that the turn hears of a counted replica is explained here
abbrev pub AllAreExplained : (tells : Bool) (start : Option MetaState) (turns : List Turn) (events : List Event) → ToldBy start turns events → TurnPosition → Type 0
AllAreExplained tells start turns events told p =
    (place : Placement) → IsUsedBy start p place → (shard node : ℕ) (why : Reason) → IsCounted place shard node → IsHeard start (Within events told.spans p) p place shard node why
    → (steady : IsSteadyNode start turns events told p place shard node) × IsExplainedAt tells start turns events told p place shard node steady.name why

-- What is known of a call: it is one of a run that a legal list tells of, stops are alone in their lines, nodes have one name, and what it hears is explained.
pub record IsKnownCall (tells : Bool) (start : Option MetaState) (turns : List Turn) (events : List Event) (told : ToldBy start turns events) (p : TurnPosition) : Type 0 where
  pub legal : Legal tells events
  pub in_run : IsTurnPosition turns p
  pub calls : IsTrue (is_call p.turn.act)
  pub halts : HaltsAlone turns
  pub named : ServedAreNamed start events told.spans p
  pub explained : AllAreExplained tells start turns events told p

-- The counted replicas that a call names with their reasons are silent for these reasons.
abbrev pub SilentIsSaid : Bool → Type 0
SilentIsSaid tells =
    (start : Option MetaState) (turns : List Turn) (events : List Event) (told : ToldBy start turns events) (p : TurnPosition) → IsKnownCall tells start turns events told p
    → (place : Placement) → IsUsedBy start p place → (shard got : ℕ) (reasons : List (ℕ × Reason)) → HearsShard start (Within events told.spans p) p place shard got reasons
    → AreSilent tells (faults_told told.ends events (length turns)) start p place shard reasons

-- A call that is refused for its level missed it.
abbrev pub TooFewIsSaid : Bool → Type 0
TooFewIsSaid tells =
    (start : Option MetaState) (turns : List Turn) (events : List Event) (told : ToldBy start turns events) (p : TurnPosition) → IsKnownCall tells start turns events told p
    → (got needed : ℕ) (reasons : List (ℕ × Reason)) (shard : ℕ) → p.turn.answer ≡ answer.Consistency got needed reasons shard → MissesLevel tells (faults_told told.ends events (length turns)) start p got needed reasons shard

-- A fetch and a match that are answered reached their level, and are short only where a majority is missing.
abbrev pub FetchIsSaid : Bool → Type 0
FetchIsSaid tells =
    (start : Option MetaState) (turns : List Turn) (events : List Event) (told : ToldBy start turns events) (p : TurnPosition) → IsKnownCall tells start turns events told p
    → (ns id : List ℕ) (from to : ℕ) (level : ReadLevel) (version : Option ℕ) (series : List Series) (short : Bool) → p.turn.act ≡ act.Fetch ns id from to level version → p.turn.answer ≡ answer.Found series short
    → IsFoundFor tells (faults_told told.ends events (length turns)) start p (Some id) level version short

abbrev pub MatchIsSaid : Bool → Type 0
MatchIsSaid tells =
    (start : Option MetaState) (turns : List Turn) (events : List Event) (told : ToldBy start turns events) (p : TurnPosition) → IsKnownCall tells start turns events told p
    → (ns : List ℕ) (wanted : List Matcher) (from to : ℕ) (level : ReadLevel) (version : Option ℕ) (series : List Series) (short : Bool) → p.turn.act ≡ act.Match ns wanted from to level version → p.turn.answer ≡ answer.Found series short
    → IsFoundFor tells (faults_told told.ends events (length turns)) start p None level version short

-- An acknowledgement names counted nodes, each once, by name, and as many as the level needs; and the point lies within its window.
abbrev pub AcksAreSaid : Bool → Type 0
AcksAreSaid tells =
    (start : Option MetaState) (turns : List Turn) (events : List Event) → Legal tells events → (told : ToldBy start turns events) → (p : TurnPosition) → IsTurnPosition turns p → HaltsAlone turns → ServedAreNamed start events told.spans p
    → (ns id : List ℕ) (t : ℕ) (v : ℤ) (level : WriteLevel) (version : Option ℕ) (nodes : List ℕ) → p.turn.act ≡ act.Write ns id t v level version → p.turn.answer ≡ answer.Acks nodes → IsAcked start p id level version nodes
