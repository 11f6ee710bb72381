-- What a cluster's own look-ups decide of its answers, beside what its events tell: refusals that are due, answers of the act's own kind, the first placement,
-- and which disks couldn't be taken.
use Rattle.std.specs.Prelude.{◌≡◌, ◌⊎◌, ◌+◌, ◌≤◌, ℕ, ⊤, List, ◌∷◌, ◌++◌, Option, Some, None, ◌<◌, length, map}
use Rattle.m3_model.specs.Ascends.{Ascends}
use Rattle.m3_model.specs.Members.{IsIn}
use Rattle.m3_model.specs.declared.act.Act.{Act}
use Rattle.m3_model.specs.declared.act.Act.TheVariants as act
use Rattle.m3_model.specs.declared.answer.Answer.{Answer}
use Rattle.m3_model.specs.declared.answer.Answer.TheVariants as answer
use Rattle.m3_model.specs.declared.limits.TheConstants.{MOST_EVENTS, MOST_REQUEST_EVENTS}
use Rattle.m3_model.specs.declared.placement.Placement.{Placement}
use Rattle.m3_model.specs.declared.reason.Reason.{Reason}
use Rattle.m3_model.specs.declared.rules.MetaState.{MetaState}
use Rattle.m3_model.specs.declared.turn.Turn.{Turn}
use Rattle.placement_core.specs.Shards.{former, shard_at}
use Rattle.placement_plan.specs.First.{IsInitial}
use Rattle.placement_acts.specs.Acts.{IsInTheWay}
use Rattle.cluster_core.specs.declared.event.Event.{Event}
use Rattle.cluster_core.specs.declared.event.Event.TheVariants as event
use Rattle.cluster_core.specs.declared.event.StepCall.TheVariants as call
use Rattle.cluster_core.specs.declared.event.StepReply.TheVariants as reply
use Rattle.transcripts.specs.Caused.{IsBootstrapped, IsRefusedWhole, IsStepOf, IsUnmade, refusal_after}
use Rattle.transcripts.specs.Deliveries.{LateMessage, IsLateBefore, IsSameMessage, IsSamePosition}
use Rattle.transcripts.specs.Faults.{AreDifferent, Fault, Taking}
use Rattle.transcripts.specs.Peers.{LacksVersion, MissesMajority}
use Rattle.transcripts.specs.Placements.{MayStand}
use Rattle.transcripts.specs.Record.{InnerTurn, TurnPosition, IsAfter, IsTurnPosition}
use Rattle.transcripts.specs.Sweeps.{IsStatus, IsSweptOver}
use Rattle.told_by.specs.Hears.{Happens, HearsOutcomes, InStretch}
use Rattle.told_by.specs.Spans.{Spans}
use Rattle.told_by.specs.Told.{ToldBy}

-- an answer of the act's own kind, with what no event says of it
abbrev pub IsOfKind : List Fault → Option MetaState → TurnPosition → Act → Answer → Type 0
IsOfKind taking start p (act.Init rf shards seed nodes) (answer.Placed place version) = IsInitial rf shards nodes place × (version ≡ place.version)
IsOfKind taking start p (act.Init rf shards seed nodes) (answer.Group shard) = IsInTheWay None (act.Init rf shards seed nodes) (answer.Group shard)
IsOfKind taking start p (act.Init rf shards seed nodes) (answer.Disk name shard) = IsUnmade taking start p rf shards nodes name shard
IsOfKind taking start p (act.Namespace name block past future retention) answer.Done = ⊤
IsOfKind taking start p (act.Now now) answer.Done = ⊤
IsOfKind taking start p (act.Fates list) answer.Done = ⊤
IsOfKind taking start p act.Deliver (answer.Outcomes outcomes) = ⊤
IsOfKind taking start p (act.Stop node) answer.Done = ⊤
IsOfKind taking start p (act.Restart node pick) answer.Done = ⊤
IsOfKind taking start p (act.Restart node pick) (answer.Disk name shard) = ⊤
IsOfKind taking start p (act.Bootstrap node asked) (answer.Available available place version) = IsBootstrapped start p node asked available place version
IsOfKind taking start p (act.Bootstrap node asked) (answer.Disk name shard) = ⊤
IsOfKind taking start p (act.Bootstrap node asked) (answer.Peers got needed reasons shard) = MissesMajority start p node asked got needed reasons shard
IsOfKind taking start p (act.Bootstrap node asked) (answer.Limit limit) = LacksVersion start p node asked limit
IsOfKind taking start p (act.Bootstrap node asked) (answer.Corrupt name shard damage) = ⊤
IsOfKind taking start p (act.Add node group) b = IsStepOf taking start p (act.Add node group) b
IsOfKind taking start p (act.Drain node) b = IsStepOf taking start p (act.Drain node) b
IsOfKind taking start p (act.Cancel node) b = IsStepOf taking start p (act.Cancel node) b
IsOfKind taking start p (act.Remove node) b = IsStepOf taking start p (act.Remove node) b
IsOfKind taking start p (act.Replace node by group) b = IsStepOf taking start p (act.Replace node by group) b
IsOfKind taking start p (act.Write ns id t v level version) (answer.Acks acks) = ⊤
IsOfKind taking start p (act.Write ns id t v level version) (answer.Consistency got needed reasons shard) = ⊤
IsOfKind taking start p (act.Fetch ns id from to level version) (answer.Found series short) = ⊤
IsOfKind taking start p (act.Fetch ns id from to level version) (answer.Consistency got needed reasons shard) = ⊤
IsOfKind taking start p (act.Match ns wanted from to level version) (answer.Found series short) = ⊤
IsOfKind taking start p (act.Match ns wanted from to level version) (answer.Consistency got needed reasons shard) = ⊤
IsOfKind taking start p act.Tick (answer.Swept done failed) = IsSweptOver start p done failed
IsOfKind taking start p act.Flush (answer.Swept done failed) = IsSweptOver start p done failed
IsOfKind taking start p act.Snapshot (answer.Swept done failed) = IsSweptOver start p done failed
IsOfKind taking start p act.Status (answer.Status now lines version) = IsStatus start p now lines version
IsOfKind taking start p _ _ = ⊥

-- the refusal that is due, or an answer of the act's own kind where none is due
abbrev pub IsDecidedBy : List Fault → Option MetaState → TurnPosition → Option Answer → Type 0
IsDecidedBy taking start p (Some refusal) = p.turn.answer ≡ refusal
IsDecidedBy taking start p None = IsOfKind taking start p p.turn.act p.turn.answer

-- the answer is decided so after some turns after which it may have been given
abbrev pub IsDecided : List Fault → Option MetaState → TurnPosition → Type 0
IsDecided taking start p = (turns : List InnerTurn) × IsAfter p turns × IsDecidedBy taking start p (refusal_after start p turns)

-- a list of so many events may lack room for what one more request adds
abbrev pub MayLackRoom : ℕ → Type 0
MayLackRoom end = MOST_EVENTS + 2 ≤ end + MOST_REQUEST_EVENTS

-- an answer for want of memory, one where the list may have lacked room by the end of the turn, or one that is decided
abbrev pub IsAnswered : List Fault → Option MetaState → ℕ → TurnPosition → Type 0
IsAnswered taking start end p = (p.turn.answer ≡ answer.Memory) ⊎ (((p.turn.answer ≡ answer.Full) × MayLackRoom end) ⊎ IsDecided taking start p)

-- each former replica of the shard that has no reason was fenced
abbrev pub HearsFenced : Option MetaState → (ℕ → Event → Type 0) → TurnPosition → List (ℕ × Reason) → ℕ → Type 0
HearsFenced start Here p reasons shard =
    (place : Placement) → MayStand start p place → (node : ℕ) → IsIn (former (shard_at place shard)) node → ¬ IsIn (map (λ r. r.0) reasons) node
    → (version : ℕ) × Happens Here (event.Step node shard (call.Fence version) reply.Done)

-- where the answer has outcomes, they are heard of these late messages, in the order in which they were made late; where it has peers, those that streamed are
abbrev pub HearsOf : Option MetaState → (ℕ → Event → Type 0) → TurnPosition → List LateMessage → Answer → Type 0
HearsOf start Here p messages (answer.Outcomes outcomes) = Ascends IsLateBefore messages × HearsOutcomes start Here p messages outcomes
HearsOf start Here p messages (answer.Peers got needed reasons shard) = HearsFenced start Here p reasons shard
HearsOf start Here p messages _ = ⊤

-- the turn heard so within its stretch
abbrev pub Delivers : Option MetaState → List Event → Spans → TurnPosition → List LateMessage → Type 0
Delivers start events spans p messages = HearsOf start (InStretch events (spans.from p) (spans.to p)) p messages p.turn.answer

-- Each answer of the run is so, where its turns deliver these late messages; no message is delivered twice; a `par` line is refused as a whole only where no
-- placement stands; and these disks couldn't be taken in its lines, no two of them alike.
pub record AreAnswered (taking : List Fault) (delivered : TurnPosition → List LateMessage) (start : Option MetaState) (turns : List Turn) (events : List Event) (told : ToldBy start turns events) : Type 0 where
  pub each : (p : TurnPosition) → IsTurnPosition turns p → IsAnswered taking start (told.spans.to p) p
  pub delivers : (p : TurnPosition) → IsTurnPosition turns p → Delivers start events told.spans p (delivered p)
  pub once : (p q : TurnPosition) → IsTurnPosition turns p → IsTurnPosition turns q → (a b : LateMessage) → IsIn (delivered p) a → IsIn (delivered q) b → IsSameMessage a b → IsSamePosition p q
  pub whole : (before : List Turn) (line : Turn) (after : List Turn) → turns ≡ before ++ line ∷ after → IsRefusedWhole start before line.request line.reply
  pub untaken : (fault : Fault) → IsIn taking fault → (fault.kind ≡ Taking) × (fault.line < length turns)
  pub different : AreDifferent taking
