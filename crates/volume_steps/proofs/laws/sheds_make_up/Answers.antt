use Rattle.volume_steps.proofs.LawLemmas.{sheds_make_up as it}
use Rattle.volume_steps.proofs.laws.sheds_make_up.Goals as goal

pub returns : goal.returns
returns c = it
