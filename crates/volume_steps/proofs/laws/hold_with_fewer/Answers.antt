use Rattle.volume_steps.proofs.KnownLemmas.{hold_with_fewer as it}
use Rattle.volume_steps.proofs.laws.hold_with_fewer.Goals as goal

pub returns : goal.returns
returns c = it
