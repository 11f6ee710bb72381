-- What a list tells of placements: each printed one is a Place; where a Place ends moves, its turn prints whom each joining node merged; and a turn that prints
-- a shard as turned available ends its move.
use Rattle.std.specs.Prelude.{◌≡◌, ◌≤◌, ◌<◌, ℕ, List, Option, Some, take}
use Rattle.m3_model.specs.Ascends.{Ascends}
use Rattle.m3_model.specs.Members.{IsIn}
use Rattle.transcripts.specs.Fates.{OfNode}
use Rattle.transcripts.specs.Joined.{IsBootstrapInto}
use Rattle.transcripts.specs.Placements.{printed}
use Rattle.transcripts.specs.Record.{TurnPosition}
use Rattle.m3_model.specs.declared.act.Act.TheVariants as act
use Rattle.m3_model.specs.declared.answer.Answer.TheVariants as answer
use Rattle.m3_model.specs.declared.placement.Assignment.{Assignment}
use Rattle.m3_model.specs.declared.placement.Placement.{Placement}
use Rattle.m3_model.specs.declared.placement.ShardState.TheVariants.{Initializing}
use Rattle.placement_core.specs.Majorities.{IsMajority}
use Rattle.placement_core.specs.NodeNames.{IsNamedBelow}
use Rattle.placement_core.specs.Shards.{Shard, former}
use Rattle.cluster_core.specs.Earlier.{last_place}
use Rattle.cluster_core.specs.Joins.{HasStreamed}
use Rattle.cluster_core.specs.Lists.{At}
use Rattle.cluster_core.specs.declared.event.Event.{Event}
use Rattle.cluster_core.specs.declared.event.Event.TheVariants as event
use Rattle.told_by.specs.Spans.{Spans, IsEarlier}

-- the placement is a Place before the end of the turn
pub record HasPlace (events : List Event) (before : ℕ) (place : Placement) : Type 0 where
  pub place_at : ℕ
  pub done : List (ℕ × ℕ)
  pub there : At events place_at (event.Place place done)
  pub in_time : place_at < before

-- a bootstrap that was answered ok, with the shards that turned available and their peers
pub record IsBootstrapOf (p : TurnPosition) (available : List (ℕ × List ℕ)) : Type 0 where
  pub node : List ℕ
  pub asked : Option ℕ
  pub act_is : p.turn.act ≡ act.Bootstrap node asked
  pub place : Placement
  pub version : ℕ
  pub answered : p.turn.answer ≡ answer.Available available place version

-- where these events end with a move of the shard to the node still under way, which this placement ends: the turn is the node's bootstrap, prints the placement, and
-- with the shard a majority of the former replicas, by name, each of which the node has streamed
pub record PrintsPeers (next : Placement) (past : List Event) (p : TurnPosition) (s y : ℕ) : Type 0 where
  pub available : List (ℕ × List ℕ)
  pub bootstrap : IsBootstrapInto p next y available
  pub names : List ℕ
  pub printed : IsIn available (s, names)
  pub last : Placement
  pub last_is : last_place past ≡ Some last
  pub shard : Shard
  pub shard_is : At last.shards s shard
  pub by_name : Ascends (IsNamedBelow last) names
  pub enough : IsMajority last.rf (former shard) names
  pub joining : Assignment
  pub joins : IsIn shard joining
  pub to_node : joining.node ≡ y
  pub is_joining : joining.state ≡ Initializing
  pub streamed : (q : ℕ) → IsIn names q → HasStreamed s y joining.tenure q past

-- a Place that the turn makes ends a move of the shard to the node that the placement calls so
pub record EndsOwn (Mine : ℕ → Type 0) (events : List Event) (makers : ℕ → TurnPosition) (p : TurnPosition) (name : List ℕ) (s : ℕ) : Type 0 where
  pub place_at : ℕ
  pub place : Placement
  pub done : List (ℕ × ℕ)
  pub there : At events place_at (event.Place place done)
  pub mine : Mine place_at
  pub own : makers place_at ≡ p
  pub node : ℕ
  pub named : OfNode place node (λ called. called ≡ name)
  pub ended : IsIn done (s, node)

-- the turn ends a move to its node of each shard that it prints
abbrev pub EndsPrinted : (ℕ → Type 0) → List Event → (ℕ → TurnPosition) → TurnPosition → Type 0
EndsPrinted Mine events makers p = (available : List (ℕ × List ℕ)) (boot : IsBootstrapOf p available) (x : ℕ × List ℕ) → IsIn available x → EndsOwn Mine events makers p boot.node x.0

pub record TellsPlacements (Here : TurnPosition → Type 0) (Mine : ℕ → Type 0) (events : List Event) (spans : Spans) (makers : ℕ → TurnPosition) : Type 0 where
  -- each printed placement
  pub is_place : (p : TurnPosition) → Here p → (place : Placement) → printed p.turn.answer ≡ Some place → HasPlace events (spans.to p) place
  -- none is earlier than one that a turn before printed: the versions of Places ascend
  pub not_earlier : (p q : TurnPosition) → Here p → Here q → IsEarlier p q → (was is : Placement) → printed p.turn.answer ≡ Some was → printed q.turn.answer ≡ Some is → was.version ≤ is.version
  -- each move that a Place ends
  pub each_end : (i : ℕ) (place : Placement) (done : List (ℕ × ℕ)) → Mine i → 2 ≤ i → At events i (event.Place place done) → (d : ℕ × ℕ) → IsIn done d → PrintsPeers place (take i events) (makers i) d.0 d.1
  -- and each shard that a turn prints as turned available, by a Place of its own
  pub ends_printed : (p : TurnPosition) → Here p → EndsPrinted Mine events makers p
