use Rattle.std.proofs.Common.{◌≡◌, ◌≢◌, ◌<◌, ℕ, slice_get, Some}
use Rattle.placement_core.specs.m3_model.declared.placement.Instance.{Instance}
use Rattle.placement_plan.proofs.nodes.named_node.Given as goal

-- none so far has the name
abbrev pub invariant-loop-number : goal.invariant-loop-number
invariant-loop-number l = (k : ℕ) (i : Instance) → k < l.number → slice_get l.instances k ≡ Some i → i.name ≢ l.name
