-- The replicas of a placement as rows, shard by shard.
use Rattle.std.specs.Prelude.{◌≡◌, ℕ, zero, suc, List, [], ◌++◌, map}
use Rattle.m3_model.specs.declared.placement.Assignment.{Assignment}
use Rattle.m3_model.specs.declared.placement.Placement.{Placement}
use Rattle.placement_core.specs.Shards.{Shard}
use Rattle.node_calls.specs.session_net.Runs.{slot_at}
use Rattle.node_calls.specs.session_net.Writes.{AreMembers}
use Rattle.cluster_upkeep.specs.declared.rows.Row.{Row}

-- the row of an assignment of the shard
abbrev pub row_at : ℕ → Assignment → Row
row_at shard a = record { slot = slot_at a.node shard; state = a.state }

-- the node with the shard
abbrev pub slot_in : Row → ℕ × ℕ
slot_in r = (r.slot.node, r.slot.shard)

-- the rows of the shard's replicas, by name, stand behind those before
pub record HasShardRows (place : Placement) (shard : ℕ) (before rows : List Row) : Type 0 where
  pub members : Shard
  pub are : AreMembers place shard members
  pub rows_are : rows ≡ before ++ map (row_at shard) members

-- these are the rows of the shards below this number
abbrev pub AreRowsBelow : Placement → ℕ → List Row → Type 0
AreRowsBelow place zero rows = rows ≡ []
AreRowsBelow place (suc shard) rows = (before : List Row) × AreRowsBelow place shard before × HasShardRows place shard before rows
