-- Writes whose messages were late, and what comes of them.
use Rattle.std.specs.Prelude.{◌≡◌, ◌≢◌, ℕ, suc, ◌<◌, List, [], ◌∷◌, length, drop, Option, Some, None, Bool, true, false, not, IsTrue, ◌⊎◌, ⊤}
use Rattle.std.specs.List.{list_any}
use Rattle.m3_model.specs.Ascends.{Ascends}
use Rattle.m3_model.specs.Hash.{shard_of}
use Rattle.m3_model.specs.Members.{IsIn}
use Rattle.m3_model.specs.Rules.{InWindow, IsPast, IsFuture}
use Rattle.m3_model.specs.declared.act.Fate.TheVariants.{Late}
use Rattle.m3_model.specs.declared.answer.Answer.{Answer}
use Rattle.m3_model.specs.declared.answer.Answer.TheVariants as answer
use Rattle.m3_model.specs.declared.placement.Placement.{Placement}
use Rattle.m3_model.specs.declared.point.Point.{Point}
use Rattle.m3_model.specs.declared.reason.Reason.{Reason}
use Rattle.m3_model.specs.declared.reason.Reason.TheVariants as reason
use Rattle.m3_model.specs.declared.rules.MetaState.{MetaState}
use Rattle.m3_model.specs.declared.turn.Turn.{Turn}
use Rattle.placement_core.specs.NodeNames.{IsNamedBelow}
use Rattle.transcripts.specs.Calls.{Call, call_of}
use Rattle.transcripts.specs.Fates.{IsRunningAt, OfNode, fate_at}
use Rattle.transcripts.specs.Faults.{Fault}
use Rattle.transcripts.specs.Placements.{MayUse, has_replica, seed_at}
use Rattle.transcripts.specs.Points.{point_of, was_sent}
use Rattle.transcripts.specs.Reasons.{MayFail}
use Rattle.transcripts.specs.Record.{TurnPosition, IsTurnPosition, IsInLine, inner_turns}
use Rattle.transcripts.specs.Rules.{rules_at}
use Rattle.transcripts.specs.Waiting.{IsBegunFor}

-- ---- messages

-- A message of a write that was made late: the write's position, the placement that the write used, the node and the point.
pub record LateMessage : Type 0 where
  pub position : TurnPosition
  pub used : Placement
  pub node : ℕ
  pub point : Point

-- the shard to which the message goes
abbrev pub shard_of_message : Option MetaState → LateMessage → ℕ
shard_of_message start m = shard_of m.point.id (seed_at start m.position) (length m.used.shards)

-- a position in the line of another one: in another list, or earlier in its own
pub record IsBeside (p q : TurnPosition) : Type 0 where
  pub lines_are : q.lines ≡ p.lines
  pub line_is : q.line ≡ p.line
  pub stands : IsInLine q
  pub not_later : (q.client ≢ p.client) ⊎ (length q.earlier < length p.earlier)

-- no late messages were delivered in this line
abbrev pub delivers_nothing : Turn → Bool
delivers_nothing line = not (list_any (λ turn. is_delivery turn.answer) (inner_turns (line ∷ [])))
  where
    is_delivery : Answer → Bool
    is_delivery (answer.Outcomes outcomes) = true
    is_delivery _ = false

-- a write before the turn, or beside it in its own line, made the message late, to a member of its shard; and none were delivered in a line between them
pub record IsLateMessage (start : Option MetaState) (p : TurnPosition) (m : LateMessage) : Type 0 where
  pub made : IsTurnPosition p.lines m.position ⊎ IsBeside p m.position
  pub of_act : point_of (rules_at start p).spaces m.position.turn.act ≡ Some m.point
  pub was_sent : was_sent m.position.turn.answer ≡ true
  pub call : Call
  pub of_call : call_of m.position.turn.act ≡ Some call
  pub may_use : MayUse start m.position call.version m.used
  pub member : IsTrue (has_replica (Some m.used) (shard_of_message start m) m.node)
  pub late : OfNode m.used m.node (λ name. fate_at m.position name ≡ Late)
  pub not_yet : (line : Turn) → IsIn (drop (suc (length m.position.lines)) p.lines) line → IsTrue (delivers_nothing line)

-- within one line, one message was made late before another: in one list by its position there and then by the node's name; those of two lists stand in either order
abbrev pub IsLateWithin : LateMessage → LateMessage → Type 0
IsLateWithin a b = (a.position.client ≢ b.position.client) ⊎ ((length a.position.earlier < length b.position.earlier) ⊎ ((length a.position.earlier ≡ length b.position.earlier) × IsNamedBelow a.used a.node b.node))

-- one message was made late before another: in an earlier line, or within one
abbrev pub IsLateBefore : LateMessage → LateMessage → Type 0
IsLateBefore a b = (length a.position.lines < length b.position.lines) ⊎ ((length a.position.lines ≡ length b.position.lines) × IsLateWithin a b)

-- two positions of one run are one
abbrev pub IsSamePosition : TurnPosition → TurnPosition → Type 0
IsSamePosition p q = (length p.lines ≡ length q.lines) × (p.client ≡ q.client) × (length p.earlier ≡ length q.earlier)

-- two messages are one: of one write to one node
abbrev pub IsSameMessage : LateMessage → LateMessage → Type 0
IsSameMessage a b = IsSamePosition a.position b.position × (a.node ≡ b.node)

-- ---- outcomes

-- what may come of a late message: a node that runs, and whose replica doesn't lie idle, takes the point within its window, or it is refused for its time, or for
-- what the node's replica refuses it for
abbrev pub MayComeOf : Bool → List Fault → Option MetaState → TurnPosition → LateMessage → ℕ → Option Reason → Type 0
MayComeOf tells faults start p m shard None = InWindow (rules_at start p) m.point × IsRunningAt p m.used m.node × IsBegunFor start p m.used shard m.node
MayComeOf tells faults start p m shard (Some reason.Past) = IsPast (rules_at start p) m.point
MayComeOf tells faults start p m shard (Some reason.Future) = IsFuture (rules_at start p) m.point
MayComeOf tells faults start p m shard (Some why) = MayFail tells faults start p m.used shard m.node why

-- an outcome is of this message
pub record IsOutcomeOf (tells : Bool) (faults : List Fault) (start : Option MetaState) (p : TurnPosition) (m : LateMessage) (outcome : ℕ × ℕ × Option Reason) : Type 0 where
  pub message : IsLateMessage start p m
  pub node_is : outcome.0 ≡ m.node
  pub shard_is : outcome.1 ≡ shard_of_message start m
  pub came : MayComeOf tells faults start p m outcome.1 outcome.2

-- one outcome of each of these messages
abbrev pub AreOutcomes : Bool → List Fault → Option MetaState → TurnPosition → List LateMessage → List (ℕ × ℕ × Option Reason) → Type 0
AreOutcomes tells faults start p [] [] = ⊤
AreOutcomes tells faults start p (m ∷ messages) (outcome ∷ outcomes) = IsOutcomeOf tells faults start p m outcome × AreOutcomes tells faults start p messages outcomes
AreOutcomes tells faults start p _ _ = ⊥

-- outcomes of these messages, in the order in which they were made late
pub record IsDelivered (tells : Bool) (faults : List Fault) (start : Option MetaState) (p : TurnPosition) (messages : List LateMessage) (outcomes : List (ℕ × ℕ × Option Reason)) : Type 0 where
  pub in_order : Ascends IsLateBefore messages
  pub each : AreOutcomes tells faults start p messages outcomes
