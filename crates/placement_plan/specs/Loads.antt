-- Tables of the loads of all nodes, by number.
use Rattle.std.specs.Prelude.{◌≡◌, ◌≢◌, ◌<◌, ◌+◌, ◌-◌, ℕ, List, ◌∷◌, ◌++◌, length, slice_index}
use Rattle.placement_core.specs.Shards.{Shard}
use Rattle.placement_plan.specs.Nodes.{load}

-- the table has the loads of so many nodes
pub record AreLoads (nodes : ℕ) (shards : List Shard) (table : List ℕ) : Type 0 where
  pub many : length table ≡ nodes
  pub each : (n : ℕ) → n < nodes → slice_index table n ≡ load n shards

-- one shard less of one node, and one more of another
pub record IsShifted (old next : List ℕ) (from to : ℕ) : Type 0 where
  pub many : length next ≡ length old
  pub less : slice_index next from ≡ slice_index old from - 1
  pub more : slice_index next to ≡ slice_index old to + 1
  pub others : (n : ℕ) → n ≢ from → n ≢ to → slice_index next n ≡ slice_index old n

-- one shard more of one node
pub record IsRaised (old next : List ℕ) (node : ℕ) : Type 0 where
  pub many : length next ≡ length old
  pub more : slice_index next node ≡ slice_index old node + 1
  pub others : (n : ℕ) → n ≢ node → slice_index next n ≡ slice_index old n

-- where the one table has the loads with a shard, the other one has those with what stands for the shard
abbrev pub LoadsFollow : ℕ → List ℕ → List ℕ → Shard → Shard → Type 0
LoadsFollow nodes old next a b = (before after : List Shard) → AreLoads nodes (before ++ a ∷ after) old → AreLoads nodes (before ++ b ∷ after) next
