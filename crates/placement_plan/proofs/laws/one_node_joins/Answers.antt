use Rattle.placement_plan.proofs.PlanLaws.{one_joins}
use Rattle.placement_plan.proofs.laws.one_node_joins.Goals as goal

pub returns : goal.returns
returns c = one_joins
