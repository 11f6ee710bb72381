use Rattle.placement_plan.proofs.PlanLaws.{initial_is_lawful}
use Rattle.placement_plan.proofs.PlanLemmas.{available_lawful, cancel_lawful, removal_lawful}
use Rattle.placement_plan.proofs.DrainLemmas.{drain_lawful}
use Rattle.placement_plan.proofs.ReplaceLemmas.{replacement_lawful}
use Rattle.placement_plan.proofs.AddLemmas.{addition_lawful}
use Rattle.placement_plan.proofs.laws.plans_are_placements.Goals as goal

pub returns : goal.returns
returns c = record {
  initial = initial_is_lawful;
  available = available_lawful;
  cancel = cancel_lawful;
  remove = removal_lawful;
  drain = drain_lawful;
  replace = replacement_lawful;
  add = addition_lawful;
}
