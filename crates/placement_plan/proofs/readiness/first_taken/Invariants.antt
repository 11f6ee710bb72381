use Rattle.placement_plan.specs.Nodes.{Has}
use Rattle.isolation_groups.specs.Groups.{IsFree}
use Rattle.placement_plan.proofs.PlaceLemmas.{NoneBelow}
use Rattle.placement_plan.proofs.readiness.first_taken.Given as goal

abbrev pub invariant-loop-number : goal.invariant-loop-number
invariant-loop-number l = NoneBelow (λ s. Has l.node s × ¬ IsFree l.instances s l.node l.group) l.shards l.number
