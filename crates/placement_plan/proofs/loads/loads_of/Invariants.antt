use Rattle.std.proofs.Common.{◌≡◌, ◌<◌, ℕ, length, slice_index}
use Rattle.placement_plan.specs.Nodes.{load}
use Rattle.placement_plan.proofs.loads.loads_of.Given as goal

-- the loads of the nodes so far
abbrev pub invariant-loop-node : goal.invariant-loop-node
invariant-loop-node l = (length l.loads.items ≡ l.node) × ((n : ℕ) → n < l.node → slice_index l.loads.items n ≡ load n l.shards)
