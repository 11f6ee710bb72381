use Rattle.placement_core.specs.m3_model.declared.placement.Assignment.{Assignment}
use Rattle.placement_core.specs.m3_model.declared.placement.ShardState.TheVariants.{Initializing}
use Rattle.std.proofs.Common.{◌≡◌}
use Rattle.placement_plan.proofs.PlaceLemmas.{NoneBelow}
use Rattle.placement_plan.proofs.readiness.joining_node.Given as goal

abbrev pub invariant-loop-a : goal.invariant-loop-a
invariant-loop-a l = NoneBelow (λ (a : Assignment). a.state ≡ Initializing) l.shard l.a-index
