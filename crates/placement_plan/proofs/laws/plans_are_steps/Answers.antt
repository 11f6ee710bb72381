use Rattle.placement_plan.proofs.PlanLemmas.{available_step, cancel_step, removal_step}
use Rattle.placement_plan.proofs.DrainLemmas.{drain_step}
use Rattle.placement_plan.proofs.ReplaceLemmas.{replacement_step}
use Rattle.placement_plan.proofs.AddLemmas.{addition_step}
use Rattle.placement_plan.proofs.laws.plans_are_steps.Goals as goal

pub returns : goal.returns
returns c = record { available = available_step; cancel = cancel_step; remove = removal_step; drain = drain_step; replace = replacement_step; add = addition_step }
