use Rattle.placement_plan.proofs.PlanLaws.{groups_differ_before, groups_differ_after}
use Rattle.placement_plan.proofs.laws.groups_differ.Goals as goal

pub returns : goal.returns
returns c = record { before = groups_differ_before; after = groups_differ_after }
