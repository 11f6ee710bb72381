use Rattle.volume_steps.proofs.LawLemmas.{join_is_there as it}
use Rattle.volume_steps.proofs.laws.join_is_there.Goals as goal

pub returns : goal.returns
returns c = it
