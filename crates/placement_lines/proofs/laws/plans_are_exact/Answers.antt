use Rattle.placement_lines.proofs.LawLemmas.{inits_lead_to_one, steps_lead_to_one}
use Rattle.placement_lines.proofs.laws.plans_are_exact.Goals as goal

pub returns : goal.returns
returns c = record { steps = steps_lead_to_one; inits = inits_lead_to_one }
