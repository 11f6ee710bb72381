use Rattle.std.proofs.Common.{◌≡◌}
use Rattle.placement_plan.specs.First.{first_instances}
use Rattle.first_placement.proofs.initial.instances_of.Given as goal

abbrev pub invariant-loop-name : goal.invariant-loop-name
invariant-loop-name l = l.instances.items ≡ first_instances l.yielded
