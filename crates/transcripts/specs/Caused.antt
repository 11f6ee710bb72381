-- Why an answer is what it is: a refusal has its cause, and what has none is answered in its own way.
use Rattle.std.specs.Prelude.{◌≡◌, ℕ, ◌+◌, ◌*◌, ◌≤◌, ◌<◌, List, [], ◌∷◌, ◌++◌, length, map, count_by, Option, Some, None, Bool, true, false, slice_get, IsTrue, ◌⊎◌, ⊤}
use Rattle.std.specs.List.{flat_map}
use Rattle.m3_model.specs.Ascends.{Ascends}
use Rattle.m3_model.specs.Members.{IsIn}
use Rattle.m3_model.specs.declared.limits.TheConstants.{MOST_EVENTS, MOST_REQUEST_EVENTS}
use Rattle.m3_model.specs.declared.placement.Placement.{Placement}
use Rattle.m3_model.specs.declared.rules.MetaState.{MetaState}
use Rattle.m3_model.specs.declared.act.Act.{Act}
use Rattle.m3_model.specs.declared.act.Act.TheVariants as act
use Rattle.m3_model.specs.declared.answer.Answer.{Answer}
use Rattle.m3_model.specs.declared.answer.Answer.TheVariants as answer
use Rattle.m3_model.specs.declared.turn.Request.{Request}
use Rattle.m3_model.specs.declared.turn.Request.TheVariants as request
use Rattle.m3_model.specs.declared.turn.Reply.{Reply}
use Rattle.m3_model.specs.declared.turn.Reply.TheVariants as reply
use Rattle.m3_model.specs.declared.turn.Turn.{Turn}
use Rattle.placement_plan.specs.First.{IsInitial}
use Rattle.placement_plan.specs.Plans.{AreJoining, IsAvailable}
use Rattle.placement_acts.specs.Acts.{IsInTheWay, Plans}
use Rattle.transcripts.specs.Deliveries.{LateMessage, IsDelivered, IsSameMessage, IsSamePosition}
use Rattle.transcripts.specs.Fates.{is_stopped, OfNode}
use Rattle.transcripts.specs.Faults.{Fault, AreDifferent, IsUntaken, HasFailed, IsDamaged}
use Rattle.transcripts.specs.Levels.{IsAcked, MissesLevel, IsFoundFor}
use Rattle.transcripts.specs.Peers.{HadVersion, IsUnjoined, LacksVersion}
use Rattle.transcripts.specs.Placements.{placement_after, placement_at, placements, start_placement, HadReplica, MayStand, has_replica}
use Rattle.transcripts.specs.Reasons.{IsShown}
use Rattle.transcripts.specs.Record.{Record, Life, InnerTurn, TurnPosition, IsTurnPosition, IsAfter, acts_of, inner_turns, lists_of}
use Rattle.transcripts.specs.Refusals.{kept_versions, refusal_by}
use Rattle.transcripts.specs.Rules.{rules_at}
use Rattle.transcripts.specs.Sweeps.{IsStatus, IsSwept}
use Rattle.transcripts.specs.Waiting.{is_covering}

-- ---- answers that are the act's own

-- the node has this name in a placement that may stand
pub record IsCalled (start : Option MetaState) (p : TurnPosition) (name : List ℕ) (node : ℕ) : Type 0 where
  pub place : Placement
  pub stands : MayStand start p place
  pub named : OfNode place node (λ own. own ≡ name)

-- a restart reaches each slot of its node that had a replica before its line
abbrev pub HadBefore : Option MetaState → TurnPosition → ℕ → ℕ → Type 0
HadBefore start p shard node = HadReplica start (inner_turns p.lines) shard node

-- a bootstrap reaches each member before its line
abbrev pub IsMemberBefore : Option MetaState → TurnPosition → ℕ → ℕ → Type 0
IsMemberBefore start p shard node = IsTrue (has_replica (placement_at start p) shard node)

-- the disk of one of the slots that are reached of the node of this name failed in this line
abbrev pub OnDisk : List Fault → Option MetaState → TurnPosition → (ℕ → Type 0) → List ℕ → ℕ → Type 0
OnDisk faults start p Reached name shard = (node : ℕ) × IsCalled start p name node × Reached node × HasFailed faults p shard node

-- its files were found damaged in this line
abbrev pub InFiles : List Fault → Option MetaState → TurnPosition → (ℕ → Type 0) → List ℕ → ℕ → Type 0
InFiles faults start p Reached name shard = (node : ℕ) × IsCalled start p name node × Reached node × IsDamaged faults p shard node

-- the disk of a slot that the placement gives a replica, and that had none before, couldn't be taken; the placement calls its node so
pub record IsUnmadeIn (faults : List Fault) (start : Option MetaState) (p : TurnPosition) (place : Placement) (name : List ℕ) (shard : ℕ) : Type 0 where
  pub node : ℕ
  pub named : OfNode place node (λ own. own ≡ name)
  pub member : IsTrue (has_replica (Some place) shard node)
  pub is_new : ¬ HadReplica start (inner_turns p.lines) shard node
  pub untaken : IsUntaken faults p shard node

-- so it is with a first placement for which `init` asks
abbrev pub IsUnmade : List Fault → Option MetaState → TurnPosition → ℕ → ℕ → List (List ℕ × List ℕ) → List ℕ → ℕ → Type 0
IsUnmade faults start p rf shards nodes name shard = (place : Placement) × IsInitial rf shards nodes place × IsUnmadeIn faults start p place name shard

-- A step from the placement before the line of an act, which is the only one of its line: the next placement and its version are printed; or what is in the way of
-- it is named; or a slot of it whose disk couldn't be taken.
abbrev pub IsStepOf : List Fault → Option MetaState → TurnPosition → Act → Answer → Type 0
IsStepOf faults start p a (answer.Placed next version) = (lists_of p.line ≡ (p.turn ∷ []) ∷ []) × Plans (placement_at start p) a next × (version ≡ next.version)
IsStepOf faults start p a (answer.Busy name shard) = IsInTheWay (placement_at start p) a (answer.Busy name shard)
IsStepOf faults start p a (answer.Group shard) = IsInTheWay (placement_at start p) a (answer.Group shard)
IsStepOf faults start p a (answer.Disk name shard) = (next : Placement) × Plans (placement_at start p) a next × IsUnmadeIn faults start p next name shard
IsStepOf faults start p a _ = ⊥

-- the moves of these shards to the bootstrap's node end: it covers them and is joining them, and they stand by number
pub record EndsMoves (before : Placement) (name : List ℕ) (asked : Option ℕ) (available : List (ℕ × List ℕ)) (place : Placement) : Type 0 where
  pub node : ℕ
  pub named : OfNode before node (λ own. own ≡ name)
  pub by_shard : Ascends (λ a b. a.0 < b.0) available
  pub covered : (x : ℕ × List ℕ) → IsIn available x → IsTrue (is_covering x.0 asked)
  pub joining : AreJoining before.shards (map (λ x. (x.0, node)) available)
  pub next : IsAvailable before (map (λ x. (x.0, node)) available) place

-- what a bootstrap leaves of the placement that it meets: the same where no shard turned available, and else the one in which their moves are over
abbrev pub IsLeftBy : Placement → List ℕ → Option ℕ → List (ℕ × List ℕ) → Placement → Type 0
IsLeftBy before name asked [] place = place ≡ before
IsLeftBy before name asked (x ∷ available) place = EndsMoves before name asked (x ∷ available) place

-- the answer prints this placement, with shards that turned available
abbrev pub EndsInto : Answer → Placement → Type 0
EndsInto (answer.Available (x ∷ available) next version) place = next ≡ place
EndsInto _ place = ⊥

-- the placement stood before the turn's line, or a turn before it in its list or beside it ended moves into it
abbrev pub IsMade : Option MetaState → TurnPosition → Placement → Type 0
IsMade start p place = (placement_at start p ≡ Some place) ⊎ ((turn : InnerTurn) × IsIn (p.earlier ++ p.beside) turn × EndsInto turn.answer place)

-- a bootstrap prints what it leaves of a placement that stands and that was made, and the shards that turned available by it, for which a version was left
pub record IsBootstrapped (start : Option MetaState) (p : TurnPosition) (name : List ℕ) (asked : Option ℕ) (available : List (ℕ × List ℕ)) (place : Placement) (version : ℕ) : Type 0 where
  pub before : Placement
  pub stands : MayStand start p before
  pub made : IsMade start p before
  pub left : IsLeftBy before name asked available place
  pub room : HadVersion start stands.0 before available
  pub version_is : version ≡ place.version

-- the answer is the act's own: ok, or too few replicas answered; what a read finds is said by what it keeps
abbrev pub IsOwn : Bool → List Fault → Option MetaState → List LateMessage → TurnPosition → Act → Answer → Type 0
IsOwn tells faults start messages p (act.Init rf shards seed nodes) (answer.Placed place version) = IsInitial rf shards nodes place × (version ≡ place.version)
IsOwn tells faults start messages p (act.Init rf shards seed nodes) (answer.Group shard) = IsInTheWay None (act.Init rf shards seed nodes) (answer.Group shard)
IsOwn tells faults start messages p (act.Init rf shards seed nodes) (answer.Disk name shard) = IsUnmade faults start p rf shards nodes name shard
IsOwn tells faults start messages p (act.Namespace name block past future retention) answer.Done = ⊤
IsOwn tells faults start messages p (act.Now now) answer.Done = ⊤
IsOwn tells faults start messages p (act.Fates list) answer.Done = ⊤
IsOwn tells faults start messages p act.Deliver (answer.Outcomes outcomes) = IsDelivered tells faults start p messages outcomes
IsOwn tells faults start messages p (act.Stop node) answer.Done = ⊤
IsOwn tells faults start messages p (act.Restart node pick) answer.Done = ⊤
IsOwn tells faults start messages p (act.Restart node pick) (answer.Disk name shard) = (name ≡ node) × OnDisk faults start p (HadBefore start p shard) name shard
IsOwn tells faults start messages p (act.Bootstrap node asked) (answer.Available available place version) = IsBootstrapped start p node asked available place version
IsOwn tells faults start messages p (act.Bootstrap node asked) (answer.Disk name shard) = (name ≡ node) × IsTrue (is_covering shard asked) × OnDisk faults start p (IsMemberBefore start p shard) name shard
IsOwn tells faults start messages p (act.Bootstrap node asked) (answer.Peers got needed reasons shard) = IsUnjoined tells faults start p node asked got needed reasons shard
IsOwn tells faults start messages p (act.Bootstrap node asked) (answer.Limit limit) = LacksVersion start p node asked limit
IsOwn tells faults start messages p (act.Bootstrap node asked) (answer.Corrupt name shard damage) = (name ≡ node) × IsTrue (is_covering shard asked) × InFiles faults start p (IsMemberBefore start p shard) name shard × IsShown damage
IsOwn tells faults start messages p (act.Add node group) b = IsStepOf faults start p (act.Add node group) b
IsOwn tells faults start messages p (act.Drain node) b = IsStepOf faults start p (act.Drain node) b
IsOwn tells faults start messages p (act.Cancel node) b = IsStepOf faults start p (act.Cancel node) b
IsOwn tells faults start messages p (act.Remove node) b = IsStepOf faults start p (act.Remove node) b
IsOwn tells faults start messages p (act.Replace node by group) b = IsStepOf faults start p (act.Replace node by group) b
IsOwn tells faults start messages p (act.Write ns id t v level version) (answer.Acks acks) = IsAcked start p id level version acks
IsOwn tells faults start messages p (act.Write ns id t v level version) (answer.Consistency got needed reasons shard) = MissesLevel tells faults start p got needed reasons shard
IsOwn tells faults start messages p (act.Fetch ns id from to level version) (answer.Found series short) = IsFoundFor tells faults start p (Some id) level version short
IsOwn tells faults start messages p (act.Fetch ns id from to level version) (answer.Consistency got needed reasons shard) = MissesLevel tells faults start p got needed reasons shard
IsOwn tells faults start messages p (act.Match ns wanted from to level version) (answer.Found series short) = IsFoundFor tells faults start p None level version short
IsOwn tells faults start messages p (act.Match ns wanted from to level version) (answer.Consistency got needed reasons shard) = MissesLevel tells faults start p got needed reasons shard
IsOwn tells faults start messages p act.Tick (answer.Swept done failed) = IsSwept tells faults start p done failed
IsOwn tells faults start messages p act.Flush (answer.Swept done failed) = IsSwept tells faults start p done failed
IsOwn tells faults start messages p act.Snapshot (answer.Swept done failed) = IsSwept tells faults start p done failed
IsOwn tells faults start messages p act.Status (answer.Status now lines version) = IsStatus start p now lines version
IsOwn tells faults start messages p _ _ = ⊥

-- ---- answers that are due

-- the refusal that is due, or the act's own answer where none is due
abbrev pub IsDueBy : Bool → List Fault → Option MetaState → List LateMessage → TurnPosition → Option Answer → Type 0
IsDueBy tells faults start messages p (Some refusal) = p.turn.answer ≡ refusal
IsDueBy tells faults start messages p None = IsOwn tells faults start messages p p.turn.act p.turn.answer

-- the versions of all placements from the start on
abbrev pub versions_after : Option MetaState → List InnerTurn → List ℕ
versions_after start turns = map (λ place. place.version) (placements start turns)

-- how many versions are kept after these turns, where the placement stands
abbrev pub kept_after : Option MetaState → List InnerTurn → Placement → ℕ
kept_after start turns place = kept_versions (Some place) (versions_after start turns)

-- the refusal that is due after these turns, if one is
abbrev pub refusal_after : Option MetaState → TurnPosition → List InnerTurn → Option Answer
refusal_after start p turns = refusal_by (placement_after (start_placement start) turns) (versions_after start turns) (rules_at start p) (is_stopped (inner_turns p.lines)) p.turn.act

-- the answer is the one that is due after some turns after which it may have been given
abbrev pub IsDue : Bool → List Fault → Option MetaState → List LateMessage → TurnPosition → Type 0
IsDue tells faults start messages p = (turns : List InnerTurn) × IsAfter p turns × IsDueBy tells faults start messages p (refusal_after start p turns)

-- ---- answers that may come at any position

-- the acts that a run took with these lines
abbrev pub acts_in : List Turn → List Act
acts_in turns = flat_map (λ turn. acts_of (Some turn.request)) turns

-- a write
abbrev pub is_write : Act → Bool
is_write (act.Write ns id t v level version) = true
is_write _ = false

-- the acts of an earlier run, with the request that got no reply
abbrev pub acts_taken : Record → List Act
acts_taken run = acts_in run.turns ++ acts_of run.unanswered

-- so many requests and writes were taken that the list of events may be full
pub record MayBeFull (past : List Record) (p : TurnPosition) : Type 0 where
  pub requests : ℕ  -- of this run, with those of the turn's own line
  pub requests_are : requests ≡ length (acts_in (p.lines ++ p.line ∷ []))
  pub writes : ℕ  -- of all runs
  pub writes_are : writes ≡ count_by is_write (flat_map acts_taken past ++ acts_in (p.lines ++ p.line ∷ []))
  pub many : MOST_EVENTS ≤ (MOST_REQUEST_EVENTS * (requests + 1)) * (writes + 1)

-- An answer is the one that is due, or says that the list of events is full; want of memory may come at any position. Where the disks tell what they hold, so that
-- the pages of a replica are bounded by what was sent, a list is full only after many requests.
abbrev pub CausedAt : Bool → List Fault → List Record → Option MetaState → List LateMessage → TurnPosition → Type 0
CausedAt tells faults past start messages p = (p.turn.answer ≡ answer.Memory) ⊎ (((p.turn.answer ≡ answer.Full) × (tells ≡ true → MayBeFull past p)) ⊎ IsDue tells faults start messages p)

-- a `par` line is refused as a whole with `order` only where no placement stands
abbrev pub IsRefusedWhole : Option MetaState → List Turn → Request → Reply → Type 0
IsRefusedWhole start before (request.Par clients workers) (reply.One answer.Order) = placement_after (start_placement start) (inner_turns before) ≡ None
IsRefusedWhole start before _ _ = ⊤

-- ---- the run

-- Each answer of the present run is caused, over these faults and damages, and no late message is delivered twice. Where the disks tell what they hold, so that
-- a replica's files can be known, more is said of reasons.
pub record Caused (tells : Bool) (life : Life) (faults : List Fault) : Type 0 where
  pub different : AreDifferent faults
  pub delivered : TurnPosition → List LateMessage  -- which late messages a `deliver` delivered
  pub each : (p : TurnPosition) → IsTurnPosition life.present.turns p → CausedAt tells faults life.past life.present.start (delivered p) p
  pub once : (p q : TurnPosition) → IsTurnPosition life.present.turns p → IsTurnPosition life.present.turns q
      → (a b : LateMessage) → IsIn (delivered p) a → IsIn (delivered q) b → IsSameMessage a b → IsSamePosition p q
  pub whole : (before : List Turn) (line : Turn) (after : List Turn) → life.present.turns ≡ before ++ line ∷ after → IsRefusedWhole life.present.start before line.request line.reply
