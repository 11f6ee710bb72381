use Rattle.placement_plan.proofs.PlanLaws.{addition_ends}
use Rattle.placement_plan.proofs.laws.addition_ends.Goals as goal

pub returns : goal.returns
returns c = addition_ends
