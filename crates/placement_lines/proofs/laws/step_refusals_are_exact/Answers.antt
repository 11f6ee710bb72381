use Rattle.placement_lines.proofs.LawLemmas.{refused_steps_lead_nowhere, steps_have_one_refusal}
use Rattle.placement_lines.proofs.laws.step_refusals_are_exact.Goals as goal

pub returns : goal.returns
returns c = record { nowhere = refused_steps_lead_nowhere; one = steps_have_one_refusal }
