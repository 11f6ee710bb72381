-- What a turn asks replicas to do, and which of their answers it counts: those of this very call.
use Rattle.std.specs.Prelude.{◌≡◌, ◌⊎◌, ◌≤◌, ◌<◌, ℕ, ⊤, List, [], ◌∷◌, take, Option, Some, true, false, IsTrue}
use Rattle.std.specs.List.{Any}
use Rattle.m3_model.specs.Delivery.{is_cut}
use Rattle.m3_model.specs.Members.{IsIn}
use Rattle.m3_model.specs.declared.act.Act.{Act}
use Rattle.m3_model.specs.declared.act.Act.TheVariants as act
use Rattle.m3_model.specs.declared.answer.Answer.TheVariants as answer
use Rattle.m3_model.specs.declared.placement.Assignment.{Assignment}
use Rattle.m3_model.specs.declared.placement.Placement.{Placement}
use Rattle.m3_model.specs.declared.placement.ShardState.TheVariants.{Initializing}
use Rattle.m3_model.specs.declared.point.Pick.{Pick}
use Rattle.m3_model.specs.declared.point.Point.{Point}
use Rattle.m3_model.specs.declared.point.Series.{Series}
use Rattle.m3_model.specs.declared.rules.MetaState.{MetaState}
use Rattle.m3_model.specs.declared.rules.Rules.{Rules}
use Rattle.placement_core.specs.Shards.{Shard, former}
use Rattle.cluster_core.specs.Earlier.{HasTenure, last_place}
use Rattle.cluster_core.specs.Lists.{At}
use Rattle.cluster_core.specs.declared.event.Asked.{Asked}
use Rattle.cluster_core.specs.declared.event.Asked.TheVariants as asked
use Rattle.cluster_core.specs.declared.event.Event.{Event}
use Rattle.cluster_core.specs.declared.event.Event.TheVariants as event
use Rattle.cluster_core.specs.declared.event.StepCall.{StepCall}
use Rattle.cluster_core.specs.declared.event.StepCall.TheVariants as call
use Rattle.cluster_core.specs.declared.event.StepReply.{StepReply}
use Rattle.cluster_core.specs.declared.event.StepReply.TheVariants as reply
use Rattle.transcripts.specs.Deliveries.{LateMessage, IsLateMessage, shard_of_message}
use Rattle.transcripts.specs.Fates.{OfNode, call_number, fate_at, is_stopped}
use Rattle.transcripts.specs.Placements.{IsCounted, has_replica, printed}
use Rattle.transcripts.specs.Points.{point_of}
use Rattle.transcripts.specs.Record.{TurnPosition, inner_turns, lists_of}
use Rattle.transcripts.specs.Rules.{rules_at, rules_by}
use Rattle.transcripts.specs.Waiting.{is_covering}

-- ---- writes and reads

-- the call is this very turn's: by its client, by its number among that client's calls, and by the turn's rules
pub record IsOfCall (start : Option MetaState) (p : TurnPosition) (client number : ℕ) (rules : Rules) : Type 0 where
  pub client_is : client ≡ p.client
  pub number_is : number ≡ call_number p
  pub rules_are : rules ≡ rules_at start p

-- the placement is a Place of this version
pub record IsPlaceOf (past : List Event) (version : ℕ) (place : Placement) : Type 0 where
  pub place_at : ℕ
  pub done : List (ℕ × ℕ)
  pub there : At past place_at (event.Place place done)
  pub version_is : place.version ≡ version

-- messages of the turn's call to the node are delivered while it is made
abbrev pub IsDeliveredTo : TurnPosition → Placement → ℕ → Type 0
IsDeliveredTo p place node = OfNode place node (λ name. is_cut (fate_at p name) ≡ false)

-- a write asks a member of the shard to take the point of a Send before, at the Send's version, where its message is delivered
pub record MayPut (start : Option MetaState) (past : List Event) (p : TurnPosition) (node shard client number : ℕ) (rules : Rules) (version : ℕ) (point : Point) : Type 0 where
  pub of_call : IsOfCall start p client number rules
  pub of_point : point_of rules.spaces p.turn.act ≡ Some point
  pub send : ℕ
  pub sent : At past send (event.Send version shard point)
  pub place : Placement
  pub is_place : IsPlaceOf past version place
  pub member : IsTrue (has_replica (Some place) shard node)
  pub delivered : IsDeliveredTo p place node

-- a fetch or a match asks a node that counts for the shard what a FetchStart before asks for, where its message is delivered
pub record MayRead (start : Option MetaState) (past : List Event) (p : TurnPosition) (node shard client number : ℕ) (rules : Rules) (version : ℕ) (pick : Pick) (from to : ℕ) : Type 0 where
  pub of_call : IsOfCall start p client number rules
  pub began : ℕ
  pub started : At past began (event.FetchStart version shard rules pick from to)
  pub place : Placement
  pub is_place : IsPlaceOf past version place
  pub counted : IsCounted place shard node
  pub delivered : IsDeliveredTo p place node

-- a `deliver` asks the node of a late message to take its point, as the message's call did, at the moment of the delivery
pub record MayPutLate (start : Option MetaState) (p : TurnPosition) (node shard client number : ℕ) (rules : Rules) (version : ℕ) (point : Point) : Type 0 where
  pub message : LateMessage
  pub is_late : IsLateMessage start p message
  pub node_is : node ≡ message.node
  pub shard_is : shard ≡ shard_of_message start message
  pub client_is : client ≡ message.position.client
  pub number_is : number ≡ call_number message.position
  pub rules_are : rules ≡ rules_at start p
  pub version_is : version ≡ message.used.version
  pub point_is : point ≡ message.point

-- ---- nodes and slots

-- the node has this name in the placement that stands
pub record IsNamedLast (past : List Event) (node : ℕ) (name : List ℕ) : Type 0 where
  pub place : Placement
  pub last : last_place past ≡ Some place
  pub named : OfNode place node (λ own. own ≡ name)

-- the slot is one of the named node, and of a shard that is asked for
pub record IsCoveredSlot (past : List Event) (name : List ℕ) (only : Option ℕ) (node shard : ℕ) : Type 0 where
  pub of_node : IsNamedLast past node name
  pub covers : IsTrue (is_covering shard only)

-- the placement gives the node the shard with this tenure
abbrev pub IsAssigned : Placement → ℕ → ℕ → ℕ → Type 0
IsAssigned place node shard tenure = (assignments : Shard) × At place.shards shard assignments × Any (λ a. (a.node ≡ node) × (a.tenure ≡ tenure)) assignments

-- the node was asked for, and the placement that stands gives it the shard with this tenure
pub record MayBeginFor (past : List Event) (name : List ℕ) (only : Option ℕ) (node shard tenure : ℕ) : Type 0 where
  pub slot : IsCoveredSlot past name only node shard
  pub assigned : IsAssigned slot.of_node.place node shard tenure

-- the node is a former replica of a shard which the named node joins with this tenure
pub record MayStream (past : List Event) (name : List ℕ) (only : Option ℕ) (node shard tenure : ℕ) : Type 0 where
  pub covers : IsTrue (is_covering shard only)
  pub place : Placement
  pub last : last_place past ≡ Some place
  pub assignments : Shard
  pub there : At place.shards shard assignments
  pub is_former : IsIn (former assignments) node
  pub joining : Assignment
  pub joins : IsIn assignments joining
  pub is_joining : joining.state ≡ Initializing
  pub tenure_is : joining.tenure ≡ tenure
  pub named : OfNode place joining.node (λ own. own ≡ name)

-- the placement that stands has no replica of the shard on the node
pub record IsUnassigned (past : List Event) (node shard : ℕ) : Type 0 where
  pub place : Placement
  pub last : last_place past ≡ Some place
  pub gone : has_replica (Some place) shard node ≡ false

-- a stop or a restart of a slot that the named node was given, by a turn that is alone in its line
pub record MayHalt (past : List Event) (p : TurnPosition) (name : List ℕ) (node shard : ℕ) : Type 0 where
  pub alone : lists_of p.line ≡ (p.turn ∷ []) ∷ []
  pub of_node : IsNamedLast past node name
  pub tenure : ℕ
  pub given : HasTenure past node shard tenure

-- ---- asks

-- a placement line asks for a Place that ends no move, and takes away the tenures of replicas that are gone
abbrev pub MayChangePlace : List Event → Asked → Type 0
MayChangePlace past (asked.Place place done) = done ≡ []
MayChangePlace past (asked.Step n s call.End) = IsUnassigned past n s
MayChangePlace past _ = ⊥

-- what an act may ask for after these events: one row for each act; Stops by an ok `stop`, and by a `restart` that is refused, which stops again what it restarted
abbrev pub MayAsk : Option MetaState → List Event → TurnPosition → Act → Asked → Type 0
MayAsk start past p (act.Init rf shards seed nodes) (asked.Step n s (call.Begin tenure)) = (place : Placement) × (printed p.turn.answer ≡ Some place) × (last_place past ≡ Some place) × IsAssigned place n s tenure
MayAsk start past p (act.Namespace name block before ahead retention) (asked.Clock rules) = rules ≡ rules_by p.turn.act answer.Done (rules_at start p)
MayAsk start past p (act.Now now) (asked.Clock rules) = rules ≡ rules_by p.turn.act answer.Done (rules_at start p)
MayAsk start past p (act.Write ns id t v level version) (asked.Step n s (call.Put client number rules at_version point)) = MayPut start past p n s client number rules at_version point
MayAsk start past p (act.Fetch ns id least end level version) (asked.Step n s (call.Read client number rules at_version pick from to)) = MayRead start past p n s client number rules at_version pick from to
MayAsk start past p (act.Match ns wanted least end level version) (asked.Step n s (call.Read client number rules at_version pick from to)) = MayRead start past p n s client number rules at_version pick from to
MayAsk start past p act.Deliver (asked.Step n s (call.Put client number rules version point)) = MayPutLate start p n s client number rules version point
MayAsk start past p (act.Stop node) (asked.Step n s call.Stop) = MayHalt past p node n s × (p.turn.answer ≡ answer.Done)
MayAsk start past p (act.Restart node pick) (asked.Step n s call.Restart) = MayHalt past p node n s × (is_stopped (inner_turns p.lines) node ≡ true)
MayAsk start past p (act.Restart node pick) (asked.Step n s call.Stop) = MayHalt past p node n s × (is_stopped (inner_turns p.lines) node ≡ true) × (p.turn.answer ≡ answer.Done → ⊥)
MayAsk start past p (act.Bootstrap node only) (asked.Step n s (call.Begin tenure)) = MayBeginFor past node only n s tenure
MayAsk start past p (act.Bootstrap node only) (asked.Step n s (call.Fence version)) = MayStream past node only n s version
MayAsk start past p (act.Bootstrap node only) (asked.Step n s (call.Page from)) = (tenure : ℕ) × MayStream past node only n s tenure
MayAsk start past p (act.Bootstrap node only) (asked.Step n s (call.Merge page)) = IsCoveredSlot past node only n s
MayAsk start past p (act.Bootstrap node only) (asked.Step n s call.End) = IsUnassigned past n s
MayAsk start past p (act.Bootstrap node only) (asked.Place place done) = (d : ℕ × ℕ) → IsIn done d → IsCoveredSlot past node only d.1 d.0
MayAsk start past p (act.Add node group) asked = MayChangePlace past asked
MayAsk start past p (act.Drain node) asked = MayChangePlace past asked
MayAsk start past p (act.Cancel node) asked = MayChangePlace past asked
MayAsk start past p (act.Remove node) asked = MayChangePlace past asked
MayAsk start past p (act.Replace node by group) asked = MayChangePlace past asked
MayAsk start past p act.Tick (asked.Step n s (call.Tick rules)) = rules ≡ rules_at start p
MayAsk start past p act.Flush (asked.Step n s (call.Flush rules)) = rules ≡ rules_at start p
MayAsk start past p act.Snapshot (asked.Step n s call.Snapshot) = ⊤
MayAsk start past p act.Repair (asked.Step n s (call.Digests rules)) = rules ≡ rules_at start p
MayAsk start past p act.Repair (asked.Step n s (call.Block ns begin size from)) = ⊤
MayAsk start past p act.Repair (asked.Step n s (call.Merge page)) = ⊤
MayAsk start past p act.Status (asked.Step n s call.Report) = ⊤
MayAsk start past p _ _ = ⊥

-- ---- answers that are counted

-- the replica took the point as this very call, since the Send at this position
pub record TookOwn (start : Option MetaState) (past : List Event) (p : TurnPosition) (send version shard : ℕ) (point : Point) (node : ℕ) : Type 0 where
  pub position : ℕ
  pub later : send < position
  pub took : At past position (event.Step node shard (call.Put p.client (call_number p) (rules_at start p) version point) reply.Done)

-- each node of an Ack took the point of its Send as this very call
abbrev pub CountsOwnPuts : Option MetaState → List Event → TurnPosition → ℕ → List ℕ → Type 0
CountsOwnPuts start past p send nodes = (version shard : ℕ) (point : Point) → At past send (event.Send version shard point) → (node : ℕ) → IsIn nodes node → TookOwn start past p send version shard point node

-- the replica answered what the FetchStart at this position asks for as this very call
pub record AnsweredOwn (start : Option MetaState) (past : List Event) (p : TurnPosition) (began version shard : ℕ) (pick : Pick) (from to node : ℕ) : Type 0 where
  pub position : ℕ
  pub later : began < position
  pub series : List Series
  pub answered : At past position (event.Step node shard (call.Read p.client (call_number p) (rules_at start p) version pick from to) (reply.Found series))

-- each node of a FetchDone answered its FetchStart as this very call
abbrev pub CountsOwnReads : Option MetaState → List Event → TurnPosition → ℕ → List ℕ → Type 0
CountsOwnReads start past p began nodes =
    (version shard : ℕ) (rules : Rules) (pick : Pick) (from to : ℕ) → At past began (event.FetchStart version shard rules pick from to) → (node : ℕ) → IsIn nodes node → AnsweredOwn start past p began version shard pick from to node

-- the act begins replicas
abbrev pub OpensReplicas : Act → Type 0
OpensReplicas (act.Init rf shards seed nodes) = ⊤
OpensReplicas (act.Bootstrap node only) = ⊤
OpensReplicas _ = ⊥

-- the turn begins replicas, and the node isn't stopped
pub record MayOpen (past : List Event) (p : TurnPosition) (node : ℕ) : Type 0 where
  pub opens : OpensReplicas p.turn.act
  pub place : Placement
  pub last : last_place past ≡ Some place
  pub runs : OfNode place node (λ name. is_stopped (inner_turns p.lines) name ≡ false)

-- a stop, a restart or a begin that is done is one that its own turn may ask for
abbrev pub MayStep : Option MetaState → List Event → TurnPosition → ℕ → ℕ → StepCall → Type 0
MayStep start past p n s call.Stop = MayAsk start past p p.turn.act (asked.Step n s call.Stop)
MayStep start past p n s call.Restart = MayAsk start past p p.turn.act (asked.Step n s call.Restart)
MayStep start past p n s (call.Begin tenure) = MayOpen past p n × MayAsk start past p p.turn.act (asked.Step n s (call.Begin tenure))
MayStep start past p n s _ = ⊤

-- the turn prints the placement, or a later one that stood when its step ended
pub record PrintsNotBefore (p : TurnPosition) (placement : Placement) : Type 0 where
  pub stood : Placement
  pub prints : printed p.turn.answer ≡ Some stood
  pub not_before : placement.version ≤ stood.version

-- what a turn may make after these events, beside what writes, reads, placements and clocks say of theirs
abbrev pub MayMake : Option MetaState → List Event → TurnPosition → Event → Type 0
MayMake start past p (event.Ask what) = MayAsk start past p p.turn.act what
MayMake start past p (event.Step n s c a) = MayStep start past p n s c
MayMake start past p (event.Place placement done) = PrintsNotBefore p placement
MayMake start past p (event.Ack send nodes) = CountsOwnPuts start past p send nodes
MayMake start past p (event.FetchDone began nodes series) = CountsOwnReads start past p began nodes
MayMake start past p _ = ⊤

-- each event is one that its maker may make
abbrev pub TellsMakes : Option MetaState → (ℕ → Type 0) → List Event → (ℕ → TurnPosition) → Type 0
TellsMakes start Mine events makers = (i : ℕ) (e : Event) → Mine i → 2 ≤ i → At events i e → MayMake start (take i events) (makers i) e

-- ---- restarts

-- a Stop of the slot that the turn makes follows the position
pub record StopsAgain (Mine : ℕ → Type 0) (events : List Event) (makers : ℕ → TurnPosition) (p : TurnPosition) (i n s : ℕ) : Type 0 where
  pub stop : ℕ
  pub later : i < stop
  pub there : At events stop (event.Step n s call.Stop reply.Done)
  pub mine : Mine stop
  pub own : makers stop ≡ p

-- the turn that restarts a replica is answered ok, or stops it again
abbrev pub EndsRestart : (ℕ → Type 0) → List Event → (ℕ → TurnPosition) → TurnPosition → ℕ → ℕ → ℕ → Type 0
EndsRestart Mine events makers p i n s = (p.turn.answer ≡ answer.Done) ⊎ StopsAgain Mine events makers p i n s

-- each Restart is of such a turn
abbrev pub TellsRestarts : (ℕ → Type 0) → List Event → (ℕ → TurnPosition) → Type 0
TellsRestarts Mine events makers = (i n s : ℕ) (a : StepReply) → Mine i → 2 ≤ i → At events i (event.Step n s call.Restart a) → EndsRestart Mine events makers (makers i) i n s
