use Rattle.meta_bytes.proofs.OneLemmas.{states_are_one as it}
use Rattle.meta_bytes.proofs.laws.states_are_one.Goals as goal

pub returns : goal.returns
returns c = it
