use Rattle.volume_steps.proofs.ListLemmas.{one_more_known as it}
use Rattle.volume_steps.proofs.laws.one_more_known.Goals as goal

pub returns : goal.returns
returns c = it
