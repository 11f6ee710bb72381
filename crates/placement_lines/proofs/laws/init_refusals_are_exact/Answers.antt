use Rattle.placement_lines.proofs.LawLemmas.{inits_have_one_refusal, refused_inits_lead_nowhere}
use Rattle.placement_lines.proofs.laws.init_refusals_are_exact.Goals as goal

pub returns : goal.returns
returns c = record { nowhere = refused_inits_lead_nowhere; one = inits_have_one_refusal }
