use Rattle.transcripts.proofs.RefusalLemmas.{refusals_agree}
use Rattle.move_laws.proofs.steps.step_refusals_agree.Goals as goal

pub returns : goal.returns
returns c = refusals_agree
