use Rattle.std.proofs.Common.{◌≡◌, ◌<◌, ℕ, slice_get, Some}
use Rattle.placement_core.specs.Shards.{Shard}
use Rattle.placement_plan.specs.Nodes.{Has}
use Rattle.placement_plan.proofs.shards.first_shard_of.Given as goal

-- the node has none so far
abbrev pub invariant-loop-number : goal.invariant-loop-number
invariant-loop-number l = (k : ℕ) (s : Shard) → k < l.number → slice_get l.shards k ≡ Some s → ¬ Has l.node s
