-- Joined: whoever turns Available has merged a majority of the former replicas, and the turn that did it prints them.
use Rattle.std.specs.Prelude.{◌≡◌, ◌≤◌, ℕ, suc, List, length, Option, Some, slice_get}
use Rattle.m3_model.specs.Ascends.{Ascends}
use Rattle.m3_model.specs.Levels.{majority}
use Rattle.m3_model.specs.Members.{IsIn}
use Rattle.m3_model.specs.declared.act.Act.TheVariants as act
use Rattle.m3_model.specs.declared.answer.Answer.TheVariants as answer
use Rattle.m3_model.specs.declared.placement.Assignment.{Assignment}
use Rattle.m3_model.specs.declared.placement.Placement.{Placement}
use Rattle.m3_model.specs.declared.placement.ShardState.TheVariants.{Initializing, Available}
use Rattle.m3_model.specs.declared.rules.MetaState.{MetaState}
use Rattle.placement_core.specs.NodeNames.{IsNamedBelow}
use Rattle.placement_core.specs.Shards.{Shard, former}
use Rattle.transcripts.specs.Fates.{IsRunningAt, OfNode}
use Rattle.transcripts.specs.Placements.{placements}
use Rattle.transcripts.specs.Record.{Life, TurnPosition, IsTurnPosition, inner_turns}
use Rattle.transcripts.specs.Waiting.{IsBegunFor}

-- the node is Initializing in the shard in one placement, and Available in the next
pub record TurnsAvailable (was next : Placement) (number node : ℕ) : Type 0 where
  pub follows : next.version ≡ suc was.version
  pub shard : Shard
  pub shard_is : slice_get was.shards number ≡ Some shard
  pub joining : Assignment
  pub joins : IsIn shard joining
  pub of_node : joining.node ≡ node
  pub is_joining : joining.state ≡ Initializing
  pub after : Shard
  pub after_is : slice_get next.shards number ≡ Some after
  pub joined : Assignment
  pub stands : IsIn after joined
  pub to_node : joined.node ≡ node
  pub is_available : joined.state ≡ Available

-- a bootstrap of this node that was answered ok, with the shards that turned available, their peers, and the placement to which that led
pub record IsBootstrapInto (p : TurnPosition) (next : Placement) (node : ℕ) (available : List (ℕ × List ℕ)) : Type 0 where
  pub name : List ℕ
  pub asked : Option ℕ
  pub act_is : p.turn.act ≡ act.Bootstrap name asked
  pub named : OfNode next node (λ own. own ≡ name)
  pub version : ℕ
  pub answered : p.turn.answer ≡ answer.Available available next version

-- the nodes are former replicas of the shard of this number, by name and each once, at least a majority; all of them run, and none of their replicas lies idle
pub record ArePeers (start : Option MetaState) (p : TurnPosition) (was : Placement) (number : ℕ) (shard : Shard) (names : List ℕ) : Type 0 where
  pub by_name : Ascends (IsNamedBelow was) names
  pub within : (node : ℕ) → IsIn names node → IsIn (former shard) node
  pub running : (node : ℕ) → IsIn names node → IsRunningAt p was node
  pub begun : (node : ℕ) → IsIn names node → IsBegunFor start p was number node
  pub enough : majority was.rf ≤ length names

-- the turn is the bootstrap that joined the node to the shard: it led from the one placement to the other, and prints the shard with such peers
pub record IsJoiningTurn (start : Option MetaState) (p : TurnPosition) (was next : Placement) (number node : ℕ) (shard : Shard) : Type 0 where
  pub available : List (ℕ × List ℕ)
  pub bootstrap : IsBootstrapInto p next node available
  pub names : List ℕ
  pub printed : IsIn available (number, names)
  pub peers : ArePeers start p was number shard names

-- of two placements of the present run, one the next of the other: each node that turned Available was joined by the turn that led from the one to the other
abbrev pub Joined : Life → Type 0
Joined life =
    (was next : Placement) → IsIn (placements life.present.start (inner_turns life.present.turns)) was → IsIn (placements life.present.start (inner_turns life.present.turns)) next
    → (number node : ℕ) → (turns : TurnsAvailable was next number node) → (p : TurnPosition) × IsTurnPosition life.present.turns p × IsJoiningTurn life.present.start p was next number node turns.shard
