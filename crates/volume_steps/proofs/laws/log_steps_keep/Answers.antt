use Rattle.volume_steps.proofs.LogLemmas.{log_steps_keep as it}
use Rattle.volume_steps.proofs.laws.log_steps_keep.Goals as goal

pub returns : goal.returns
returns c = it
