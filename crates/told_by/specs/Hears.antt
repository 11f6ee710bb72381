-- What a turn hears from replicas: each reason in its answer, but for want of memory, is the answer of a step within its stretch, and each replica that it has to ask is asked.
use Rattle.std.specs.Prelude.{[], ◌∷◌, ◌≡◌, ◌≤◌, ◌<◌, ℕ, ⊤, List, length, map, take, Option, Some, None, slice_get, ◌⊎◌, Bool, true, false, IsTrue}
use Rattle.m3_model.specs.Ascends.{Ascends}
use Rattle.m3_model.specs.Levels.{majority}
use Rattle.m3_model.specs.Members.{IsIn}
use Rattle.m3_model.specs.declared.act.Act.{Act}
use Rattle.m3_model.specs.declared.act.Act.TheVariants as act
use Rattle.m3_model.specs.declared.act.ReadLevel.TheVariants as read
use Rattle.m3_model.specs.declared.answer.Answer.{Answer}
use Rattle.m3_model.specs.declared.answer.Answer.TheVariants as answer
use Rattle.m3_model.specs.declared.answer.RepairLine.{RepairLine}
use Rattle.m3_model.specs.declared.answer.StatusLine.{StatusLine}
use Rattle.m3_model.specs.declared.placement.Assignment.{Assignment}
use Rattle.m3_model.specs.declared.placement.Instance.{Instance}
use Rattle.m3_model.specs.declared.placement.Placement.{Placement}
use Rattle.m3_model.specs.declared.placement.ShardState.TheVariants.{Initializing}
use Rattle.m3_model.specs.declared.reason.Reason.{Reason}
use Rattle.m3_model.specs.declared.reason.Reason.TheVariants as reason
use Rattle.m3_model.specs.declared.replica.Report.{Report}
use Rattle.m3_model.specs.declared.rules.MetaState.{MetaState}
use Rattle.m3_model.specs.declared.rules.Rules.{Rules}
use Rattle.placement_core.specs.NodeNames.{IsNamedBelow}
use Rattle.placement_core.specs.Shards.{Shard}
use Rattle.cluster_core.specs.Earlier.{HasTenure, last_clock, last_place}
use Rattle.cluster_core.specs.Lists.{At, IsDistinct}
use Rattle.cluster_core.specs.declared.event.Event.{Event}
use Rattle.cluster_core.specs.declared.event.Event.TheVariants as event
use Rattle.cluster_core.specs.declared.event.StepCall.{StepCall}
use Rattle.cluster_core.specs.declared.event.StepCall.TheVariants as call
use Rattle.cluster_core.specs.declared.event.StepReply.{StepReply}
use Rattle.cluster_core.specs.declared.event.StepReply.TheVariants as reply
use Rattle.transcripts.specs.Calls.{Call, call_of, AsksShard}
use Rattle.transcripts.specs.Caused.{is_write}
use Rattle.transcripts.specs.Deliveries.{IsLateBefore, IsLateMessage, LateMessage, shard_of_message}
use Rattle.transcripts.specs.Fates.{IsCutAt, call_number}
use Rattle.transcripts.specs.Levels.{AreAnswers}
use Rattle.transcripts.specs.Placements.{IsCounted, MayUse, has_replica}
use Rattle.transcripts.specs.Points.{point_of}
use Rattle.transcripts.specs.Reasons.{IsShown}
use Rattle.transcripts.specs.Record.{TurnPosition}
use Rattle.transcripts.specs.Rules.{rules_at}
use Rattle.transcripts.specs.Waiting.{is_covering}
use Rattle.told_by.specs.Makes.{IsDeliveredTo, IsAssigned, IsCoveredSlot, IsNamedLast}
use Rattle.told_by.specs.Spans.{Spans}

-- ---- what happens within a stretch

-- the event stands at this position, from one position on and before another
abbrev pub InStretch : List Event → ℕ → ℕ → ℕ → Event → Type 0
InStretch events low high i e = (low ≤ i) × (i < high) × At events i e

-- somewhere among the events that happen
abbrev pub Happens : (ℕ → Event → Type 0) → Event → Type 0
Happens Here e = (i : ℕ) × Here i e

-- a step of the slot with this answer, to a call of this kind
abbrev pub HasStep : (ℕ → Event → Type 0) → (StepCall → Type 0) → ℕ → ℕ → StepReply → Type 0
HasStep Here Kind node shard a = (c : StepCall) × Kind c × Happens Here (event.Step node shard c a)

-- ---- calls of clients

-- a put or a read of this very call, at this version
abbrev pub IsOwnCall : Option MetaState → TurnPosition → ℕ → StepCall → Type 0
IsOwnCall start p version (call.Put client number rules at_version point) =
    (client ≡ p.client) × (number ≡ call_number p) × (rules ≡ rules_at start p) × (at_version ≡ version) × (point_of rules.spaces p.turn.act ≡ Some point)
IsOwnCall start p version (call.Read client number rules at_version pick from to) = (client ≡ p.client) × (number ≡ call_number p) × (rules ≡ rules_at start p) × (at_version ≡ version) × (is_write p.turn.act ≡ false)
IsOwnCall start p version _ = ⊥

-- a replica did as a call asks
abbrev pub DidAsAsked : StepReply → Type 0
DidAsAsked reply.Done = ⊤
DidAsAsked (reply.Found series) = ⊤
DidAsAsked _ = ⊥

-- why a replica isn't among those that a call counts: its message wasn't delivered, memory was wanted, or it refused this very call so
abbrev pub IsHeard : Option MetaState → (ℕ → Event → Type 0) → TurnPosition → Placement → ℕ → ℕ → Reason → Type 0
IsHeard start Here p place shard node reason.Cut = IsCutAt p place node
IsHeard start Here p place shard node reason.Memory = ⊤
IsHeard start Here p place shard node (reason.Corrupt damage) = IsShown damage × HasStep Here (IsOwnCall start p place.version) node shard (reply.Refused (reason.Corrupt damage))
IsHeard start Here p place shard node why = HasStep Here (IsOwnCall start p place.version) node shard (reply.Refused why)

-- the call's message to the replica is delivered, and it did as this very call asks
abbrev pub HasServed : Option MetaState → (ℕ → Event → Type 0) → TurnPosition → Placement → ℕ → ℕ → Type 0
HasServed start Here p place shard node = (a : StepReply) × DidAsAsked a × HasStep Here (IsOwnCall start p place.version) node shard a × IsDeliveredTo p place node

-- of the nodes that count for a shard so many did as the call asks, and each other has its reason, by name
pub record HearsShard (start : Option MetaState) (Here : ℕ → Event → Type 0) (p : TurnPosition) (place : Placement) (shard got : ℕ) (reasons : List (ℕ × Reason)) : Type 0 where
  pub others : AreAnswers place shard got reasons
  pub counted : (r : ℕ × Reason) → IsIn reasons r → IsCounted place shard r.0
  pub by_name : Ascends (λ a b. IsNamedBelow place a.0 b.0) reasons
  pub heard : (r : ℕ × Reason) → IsIn reasons r → IsHeard start Here p place shard r.0 r.1
  pub took : 0 < got → (node : ℕ) × HasServed start Here p place shard node
  pub served : (node : ℕ) → IsCounted place shard node → ¬ IsIn (map (λ r. r.0) reasons) node → HasServed start Here p place shard node

-- different nodes that count for the shard did as the call asks, at least so many
pub record HasEnough (start : Option MetaState) (Here : ℕ → Event → Type 0) (p : TurnPosition) (place : Placement) (shard needed : ℕ) : Type 0 where
  pub nodes : List ℕ
  pub distinct : IsDistinct nodes
  pub counted : (node : ℕ) → IsIn nodes node → IsCounted place shard node
  pub served : (node : ℕ) → IsIn nodes node → HasServed start Here p place shard node
  pub enough : needed ≤ length nodes

-- a write that was acknowledged: as many counted nodes as the level needs took it, by name
pub record HearsAcks (start : Option MetaState) (Here : ℕ → Event → Type 0) (p : TurnPosition) (nodes : List ℕ) : Type 0 where
  pub call : Call
  pub of_call : call_of p.turn.act ≡ Some call
  pub place : Placement
  pub may_use : MayUse start p call.version place
  pub by_name : Ascends (IsNamedBelow place) nodes
  pub some : 0 < length nodes
  pub enough : call.needed place.rf ≤ length nodes
  pub counted : (shard : ℕ) → AsksShard start p place call.id shard → (node : ℕ) → IsIn nodes node → IsCounted place shard node
  pub served : (shard : ℕ) → AsksShard start p place call.id shard → (node : ℕ) → IsIn nodes node → HasServed start Here p place shard node

-- a call that too few answered: fewer of this shard than the level needs, and as many as it needs of each lower one that is asked
pub record HearsTooFew (start : Option MetaState) (Here : ℕ → Event → Type 0) (p : TurnPosition) (got needed : ℕ) (reasons : List (ℕ × Reason)) (shard : ℕ) : Type 0 where
  pub call : Call
  pub of_call : call_of p.turn.act ≡ Some call
  pub place : Placement
  pub may_use : MayUse start p call.version place
  pub asked : AsksShard start p place call.id shard
  pub needed_is : needed ≡ call.needed place.rf
  pub fewer : got < needed
  pub hears : HearsShard start Here p place shard got reasons
  pub first : (lower : ℕ) → lower < shard → AsksShard start p place call.id lower → HasEnough start Here p place lower needed

-- some nodes of a shard answered, but fewer than a majority, and the others have their reasons
pub record HearsShort (start : Option MetaState) (Here : ℕ → Event → Type 0) (p : TurnPosition) (call : Call) (place : Placement) : Type 0 where
  pub shard : ℕ
  pub asked : AsksShard start p place call.id shard
  pub got : ℕ
  pub reasons : List (ℕ × Reason)
  pub hears : HearsShard start Here p place shard got reasons
  pub some : 0 < got
  pub fewer : got < majority place.rf

-- a read at the level that wants one replica and says whether a majority answered
abbrev pub is_unstrict : Act → Bool
is_unstrict (act.Fetch ns id from to read.Unstrict version) = true
is_unstrict (act.Match ns wanted from to read.Unstrict version) = true
is_unstrict _ = false

-- a read that was answered: as many nodes of each shard as the level needs, and where it is short fewer than a majority of one
pub record HearsFound (start : Option MetaState) (Here : ℕ → Event → Type 0) (p : TurnPosition) (short : Bool) : Type 0 where
  pub call : Call
  pub of_call : call_of p.turn.act ≡ Some call
  pub place : Placement
  pub may_use : MayUse start p call.version place
  pub enough : (shard : ℕ) → AsksShard start p place call.id shard → HasEnough start Here p place shard (call.needed place.rf)
  pub is_short : short ≡ true → (is_unstrict p.turn.act ≡ true) × HearsShort start Here p call place
  pub not_short : short ≡ false → is_unstrict p.turn.act ≡ true → (shard : ℕ) → AsksShard start p place call.id shard → HasEnough start Here p place shard (majority place.rf)

-- ---- late messages

-- a put of the late message: as its call made it, by the rules of the delivery
abbrev pub IsLatePut : Option MetaState → TurnPosition → LateMessage → StepCall → Type 0
IsLatePut start p m (call.Put client number rules version point) = (client ≡ m.position.client) × (number ≡ call_number m.position) × (rules ≡ rules_at start p) × (version ≡ m.used.version) × (point ≡ m.point)
IsLatePut start p m _ = ⊥

-- what came of a late message is the answer of its replica to such a put, or memory was wanted
abbrev pub HearsLate : Option MetaState → (ℕ → Event → Type 0) → TurnPosition → LateMessage → ℕ → Option Reason → Type 0
HearsLate start Here p m shard None = HasStep Here (IsLatePut start p m) m.node shard reply.Done
HearsLate start Here p m shard (Some reason.Memory) = ⊤
HearsLate start Here p m shard (Some (reason.Corrupt damage)) = IsShown damage × HasStep Here (IsLatePut start p m) m.node shard (reply.Refused (reason.Corrupt damage))
HearsLate start Here p m shard (Some why) = HasStep Here (IsLatePut start p m) m.node shard (reply.Refused why)

-- an outcome is of this late message, and was heard so
pub record HearsOutcome (start : Option MetaState) (Here : ℕ → Event → Type 0) (p : TurnPosition) (m : LateMessage) (outcome : ℕ × ℕ × Option Reason) : Type 0 where
  pub message : IsLateMessage start p m
  pub node_is : outcome.0 ≡ m.node
  pub shard_is : outcome.1 ≡ shard_of_message start m
  pub heard : HearsLate start Here p m outcome.1 outcome.2

-- one outcome of each of these messages
abbrev pub HearsOutcomes : Option MetaState → (ℕ → Event → Type 0) → TurnPosition → List LateMessage → List (ℕ × ℕ × Option Reason) → Type 0
HearsOutcomes start Here p [] [] = ⊤
HearsOutcomes start Here p (m ∷ messages) (outcome ∷ outcomes) = HearsOutcome start Here p m outcome × HearsOutcomes start Here p messages outcomes
HearsOutcomes start Here p _ _ = ⊥

-- a `deliver` hears one outcome of each late message that it delivers, in the order in which they were made late
pub record HearsDelivered (start : Option MetaState) (Here : ℕ → Event → Type 0) (p : TurnPosition) (outcomes : List (ℕ × ℕ × Option Reason)) : Type 0 where
  pub messages : List LateMessage
  pub in_order : Ascends IsLateBefore messages
  pub each : HearsOutcomes start Here p messages outcomes

-- ---- slots

-- each Place that has the node calls it so
abbrev pub IsNamedBy : List Event → ℕ → List ℕ → Type 0
IsNamedBy events node name = (i : ℕ) (place : Placement) (done : List (ℕ × ℕ)) (own : Instance) → At events i (event.Place place done) → slice_get place.instances node ≡ Some own → own.name ≡ name

-- the slot has a replica: a Place gave the node the shard, or the replica was called
abbrev pub HasReplica : List Event → ℕ → ℕ → Type 0
HasReplica past node shard = ((tenure : ℕ) × HasTenure past node shard tenure) ⊎ ((i : ℕ) × (c : StepCall) × (a : StepReply) × At past i (event.Step node shard c a))

-- the slot has a replica, and its node has this name
pub record IsSlotOf (past : List Event) (name : List ℕ) (node shard : ℕ) : Type 0 where
  pub named : IsNamedBy past node name
  pub has : HasReplica past node shard

-- a step of this very call of each slot of the node
abbrev pub HearsEachSlot : List Event → (ℕ → Event → Type 0) → List ℕ → StepCall → Type 0
HearsEachSlot past Here name asked = (node shard : ℕ) → IsSlotOf past name node shard → Happens Here (event.Step node shard asked reply.Done)

-- a step of a slot of the named node, one that is reached in the placement that stands, was refused so
pub record HearsRefused (past : List Event) (Here : ℕ → Event → Type 0) (Reached : Placement → ℕ → Type 0) (name : List ℕ) (shard : ℕ) (Kind : StepCall → Type 0) (why : Reason) : Type 0 where
  pub node : ℕ
  pub of_node : IsNamedLast past node name
  pub reached : Reached of_node.place node
  pub step : HasStep Here Kind node shard (reply.Refused why)

-- a restart reaches each slot that it may ask
abbrev pub AnySlot : Placement → ℕ → Type 0
AnySlot place node = ⊤

-- a bootstrap reaches those that have a replica of the shard
abbrev pub IsMember : ℕ → Placement → ℕ → Type 0
IsMember shard place node = IsTrue (has_replica (Some place) shard node)

-- a restart
abbrev pub IsRestartCall : StepCall → Type 0
IsRestartCall call.Restart = ⊤
IsRestartCall _ = ⊥

-- what a bootstrap asks of the joining replica
abbrev pub IsJoinCall : StepCall → Type 0
IsJoinCall (call.Begin tenure) = ⊤
IsJoinCall (call.Merge page) = ⊤
IsJoinCall _ = ⊥

-- what a bootstrap asks of a former replica for a move that began at the version
abbrev pub IsStreamCall : ℕ → StepCall → Type 0
IsStreamCall version (call.Fence at_version) = at_version ≡ version
IsStreamCall version (call.Page from) = ⊤
IsStreamCall version _ = ⊥

-- what an upkeep line asks of each replica
abbrev pub IsSweepCall : Act → StepCall → Type 0
IsSweepCall act.Tick (call.Tick rules) = ⊤
IsSweepCall act.Flush (call.Flush rules) = ⊤
IsSweepCall act.Snapshot call.Snapshot = ⊤
IsSweepCall _ _ = ⊥

-- what a repair asks of each replica
abbrev pub IsRepairCall : StepCall → Type 0
IsRepairCall (call.Digests rules) = ⊤
IsRepairCall (call.Block ns begin size from) = ⊤
IsRepairCall (call.Merge page) = ⊤
IsRepairCall _ = ⊥

-- the reason is the answer of the slot's step of this kind, or memory was wanted
abbrev pub HearsReason : (ℕ → Event → Type 0) → (StepCall → Type 0) → ℕ → ℕ → Reason → Type 0
HearsReason Here Kind node shard reason.Memory = ⊤
HearsReason Here Kind node shard (reason.Corrupt damage) = IsShown damage × HasStep Here Kind node shard (reply.Refused (reason.Corrupt damage))
HearsReason Here Kind node shard why = HasStep Here Kind node shard (reply.Refused why)

-- each reason of a former replica is its answer for a move of the shard that goes on
pub record HearsPeers (past : List Event) (Here : ℕ → Event → Type 0) (shard : ℕ) (reasons : List (ℕ × Reason)) : Type 0 where
  pub place : Placement
  pub last : last_place past ≡ Some place
  pub assignments : Shard
  pub there : At place.shards shard assignments
  pub joining : Assignment
  pub among : IsIn assignments joining
  pub is_joining : joining.state ≡ Initializing
  pub heard : (x : ℕ × Reason) → IsIn reasons x → HearsReason Here (IsStreamCall joining.tenure) x.0 shard x.1

-- each count of a sweep is the answer of the slot's step, and so is each reason but for want of memory
pub record HearsSwept (Here : ℕ → Event → Type 0) (Kind : StepCall → Type 0) (done : List (ℕ × ℕ × ℕ)) (failed : List (ℕ × ℕ × Reason)) : Type 0 where
  pub counted : (x : ℕ × ℕ × ℕ) → IsIn done x → HasStep Here Kind x.0 x.1 (reply.Count x.2)
  pub refused : (x : ℕ × ℕ × Reason) → IsIn failed x → HearsReason Here Kind x.0 x.1 x.2

-- a bootstrap that was answered ok began each slot that it covers, but for closed ones and ones that the node doesn't own
abbrev pub IsBegun : StepReply → Type 0
IsBegun (reply.Began fence points) = ⊤
IsBegun (reply.Refused reason.Down) = ⊤
IsBegun (reply.Refused reason.NotOwned) = ⊤
IsBegun _ = ⊥

-- the call begins a replica with this tenure
abbrev pub IsBeginOf : ℕ → StepCall → Type 0
IsBeginOf tenure c = c ≡ call.Begin tenure

-- an `init` that was answered ok began each replica, but for ones that a fault closed and ones that the node doesn't own
abbrev pub IsFirstBegun : StepReply → Type 0
IsFirstBegun (reply.Began fence points) = ⊤
IsFirstBegun (reply.Refused reason.NotOwned) = ⊤
IsFirstBegun (reply.Refused reason.Disk) = ⊤
IsFirstBegun (reply.Refused (reason.Corrupt damage)) = ⊤
IsFirstBegun _ = ⊥

abbrev pub HearsOpened : (ℕ → Event → Type 0) → Placement → Type 0
HearsOpened Here place = (node shard tenure : ℕ) → IsAssigned place node shard tenure → (a : StepReply) × IsFirstBegun a × HasStep Here (IsBeginOf tenure) node shard a

abbrev pub HearsBegun : List Event → (ℕ → Event → Type 0) → List ℕ → Option ℕ → Type 0
HearsBegun past Here name only =
    (node shard tenure : ℕ) → (slot : IsCoveredSlot past name only node shard) → IsAssigned slot.of_node.place node shard tenure → (a : StepReply) × IsBegun a × HasStep Here (IsBeginOf tenure) node shard a

-- each node that is printed as a peer was fenced for the move of the shard
abbrev pub HearsStreamed : (ℕ → Event → Type 0) → List (ℕ × List ℕ) → Type 0
HearsStreamed Here available = (x : ℕ × List ℕ) → IsIn available x → (q : ℕ) → IsIn x.1 q → (version : ℕ) × Happens Here (event.Step q x.0 (call.Fence version) reply.Done)

-- what a replica says of itself in a `status` is the report of a step
abbrev pub HearsReport : (ℕ → Event → Type 0) → StatusLine → Type 0
HearsReport Here line = (report : Report) × (report.standing ≡ line.standing) × (report.fence ≡ line.fence) × Happens Here (event.Step line.node line.shard call.Report (reply.Told report))

-- a `status` has the moment of the last Clock, the version of the last Place, and the report of each replica
pub record HearsStatus (past : List Event) (Here : ℕ → Event → Type 0) (now version : ℕ) (replicas : List StatusLine) : Type 0 where
  pub rules : Rules
  pub clock : last_clock past ≡ Some rules
  pub now_is : now ≡ rules.now
  pub place : Placement
  pub last : last_place past ≡ Some place
  pub version_is : version ≡ place.version
  pub each : (line : StatusLine) → IsIn replicas line → IsTrue (has_replica (Some place) line.shard line.node) × HearsReport Here line

-- ---- turns

-- what a turn hears, by its act and its answer; `past` has the events before its stretch
abbrev pub HearsBy : Option MetaState → List Event → (ℕ → Event → Type 0) → TurnPosition → Act → Answer → Type 0
HearsBy start past Here p a (answer.Acks nodes) = HearsAcks start Here p nodes
HearsBy start past Here p a (answer.Found series short) = HearsFound start Here p short
HearsBy start past Here p a (answer.Consistency got needed reasons shard) = HearsTooFew start Here p got needed reasons shard
HearsBy start past Here p a (answer.Outcomes outcomes) = HearsDelivered start Here p outcomes
HearsBy start past Here p a (answer.Swept done failed) = HearsSwept Here (IsSweepCall a) done failed
HearsBy start past Here p a (answer.Peers got needed reasons shard) = HearsPeers past Here shard reasons
HearsBy start past Here p a (answer.Repaired shards) = (x : RepairLine) → IsIn shards x → (y : ℕ × Reason) → IsIn x.failed y → HearsReason Here IsRepairCall y.0 x.shard y.1
HearsBy start past Here p a (answer.Status now replicas version) = HearsStatus past Here now version replicas
HearsBy start past Here p (act.Init rf shards seed nodes) (answer.Placed place version) = HearsOpened Here place
HearsBy start past Here p (act.Stop node) answer.Done = HearsEachSlot past Here node call.Stop
HearsBy start past Here p (act.Restart node pick) answer.Done = HearsEachSlot past Here node call.Restart
HearsBy start past Here p (act.Restart node pick) (answer.Disk name shard) = (name ≡ node) × HearsRefused past Here AnySlot node shard IsRestartCall reason.Disk
HearsBy start past Here p (act.Bootstrap node only) (answer.Disk name shard) = (name ≡ node) × IsTrue (is_covering shard only) × HearsRefused past Here (IsMember shard) node shard IsJoinCall reason.Disk
HearsBy start past Here p (act.Bootstrap node only) (answer.Corrupt name shard damage) = (name ≡ node) × IsTrue (is_covering shard only) × IsShown damage × HearsRefused past Here (IsMember shard) node shard IsJoinCall (reason.Corrupt damage)
HearsBy start past Here p (act.Bootstrap node only) (answer.Available available place version) = HearsBegun past Here node only × HearsStreamed Here available
HearsBy start past Here p _ _ = ⊤

-- what each turn hears stands within its stretch
abbrev pub TellsHears : Option MetaState → (TurnPosition → Type 0) → List Event → Spans → Type 0
TellsHears start Here events spans = (p : TurnPosition) → Here p → HearsBy start (take (spans.from p) events) (InStretch events (spans.from p) (spans.to p)) p p.turn.act p.turn.answer
