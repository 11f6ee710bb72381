use Rattle.placement_core.specs.m3_model.declared.placement.Instance.{Instance}
use Rattle.std.proofs.Common.{◌≡◌, arith}
use Rattle.placement_plan.proofs.PlaceLemmas.{none_all}
use Rattle.placement_plan.proofs.nodes.named_node.Goals as goal

pub returns-clause-none : goal.returns-clause-none
returns-clause-none c = none_all (λ (i : Instance). i.name ≡ c.args.name.now) c.args.instances.now c.loop-number.number (omega arith) c.loop-number.invariant
