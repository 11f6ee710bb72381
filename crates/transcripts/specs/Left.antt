-- What earlier runs left to the replicas of a later one.
use Rattle.std.specs.Prelude.{◌≡◌, ◌≤◌, ℕ, List, ◌++◌, length, Option, Some, slice_get}
use Rattle.std.specs.List.{flat_map, filter_map}
use Rattle.m3_model.specs.Hash.{shard_of}
use Rattle.m3_model.specs.Levels.{majority}
use Rattle.m3_model.specs.Members.{IsIn}
use Rattle.m3_model.specs.Reads.{Covers}
use Rattle.m3_model.specs.Rules.{HasExpired}
use Rattle.m3_model.specs.declared.answer.Answer.TheVariants as answer
use Rattle.m3_model.specs.declared.placement.Placement.{Placement}
use Rattle.m3_model.specs.declared.point.Point.{Point}
use Rattle.m3_model.specs.declared.rules.MetaState.{MetaState}
use Rattle.m3_model.specs.declared.rules.Space.{Space}
use Rattle.placement_core.specs.Majorities.{IsMajority}
use Rattle.placement_core.specs.Shards.{Shard, holders}
use Rattle.transcripts.specs.Points.{point_of, sent_point}
use Rattle.transcripts.specs.Record.{InnerTurn, Record, acts_of, inner_turns}

-- the turns of these runs
abbrev pub earlier_turns : List Record → List InnerTurn
earlier_turns past = flat_map (λ run. inner_turns run.turns) past

-- the points that these runs sent, or took without an answer
abbrev pub sent_earlier : List Record → List Space → List Point
sent_earlier past spaces = filter_map (sent_point spaces) (earlier_turns past) ++ filter_map (point_of spaces) (flat_map (λ run. acts_of run.unanswered) past)

-- What the replicas hold when a run opens: by node and shard, its points.
abbrev pub HeldAtOpening : Type 0
HeldAtOpening = ℕ → ℕ → List Point

-- each majority of the shard's holders has a node that holds the point, or a higher value in its place
abbrev pub IsLeft : HeldAtOpening → Placement → ℕ → Point → Type 0
IsLeft held place s point = (shard : Shard) × (slice_get place.shards s ≡ Some shard) × ((members : List ℕ) → IsMajority place.rf (holders shard) members → (n : ℕ) × IsIn members n × Covers (held n s) point)

-- a write that was acknowledged is of a namespace that the run found; where a majority took its point, and it hasn't expired, it is left
pub record IsCarried (start : Option MetaState) (held : HeldAtOpening) (turn : InnerTurn) (nodes : List ℕ) : Type 0 where
  pub state : MetaState
  pub found : start ≡ Some state
  pub point : Point
  pub of_act : point_of state.rules.spaces turn.act ≡ Some point
  pub left : majority state.place.rf ≤ length nodes → ¬ HasExpired state.rules point → IsLeft held state.place (shard_of point.id state.seed (length state.place.shards)) point

-- a point that is held was sent earlier
pub record WasSentEarlier (past : List Record) (start : Option MetaState) (point : Point) : Type 0 where
  pub state : MetaState
  pub found : start ≡ Some state
  pub among : IsIn (sent_earlier past state.rules.spaces) point

-- the replicas hold what earlier runs acknowledged, and nothing that these didn't send; where a run found no state they hold nothing
pub record OpeningStands (past : List Record) (start : Option MetaState) (held : HeldAtOpening) : Type 0 where
  pub acked : (turn : InnerTurn) → IsIn (earlier_turns past) turn → (nodes : List ℕ) → turn.answer ≡ answer.Acks nodes → IsCarried start held turn nodes
  pub sent : (n s : ℕ) (point : Point) → IsIn (held n s) point → WasSentEarlier past start point
