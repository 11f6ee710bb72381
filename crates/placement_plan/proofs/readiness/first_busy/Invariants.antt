use Rattle.std.proofs.Common.{◌≡◌, false}
use Rattle.placement_core.specs.Shards.{is_steady}
use Rattle.placement_plan.specs.Nodes.{Has}
use Rattle.placement_plan.proofs.PlaceLemmas.{NoneBelow}
use Rattle.placement_plan.proofs.readiness.first_busy.Given as goal

abbrev pub invariant-loop-number : goal.invariant-loop-number
invariant-loop-number l = NoneBelow (λ s. Has l.node s × (is_steady s ≡ false)) l.shards l.number
