use Rattle.std.proofs.Common.{◌≡◌, ◌<◌, ℕ, slice_get, Some}
use Rattle.placement_core.specs.m3_model.declared.placement.Assignment.{Assignment}
use Rattle.placement_core.specs.Lawful.{IsJoiningFrom}
use Rattle.placement_plan.proofs.shards.source_of.Given as goal

-- none so far is of the node, and joining
abbrev pub invariant-loop-a : goal.invariant-loop-a
invariant-loop-a l = (k : ℕ) (a : Assignment) → k < l.a-index → slice_get l.shard k ≡ Some a → ¬ ((a.node ≡ l.node) × ((from : ℕ) × IsJoiningFrom from a))
