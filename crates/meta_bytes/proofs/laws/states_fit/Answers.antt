use Rattle.meta_bytes.proofs.LimitLemmas.{states_fit as it}
use Rattle.meta_bytes.proofs.laws.states_fit.Goals as goal

pub returns : goal.returns
returns c = it
