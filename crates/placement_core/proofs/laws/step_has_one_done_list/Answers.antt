use Rattle.placement_core.proofs.LawLemmas.{has_one_done_list}
use Rattle.placement_core.proofs.laws.step_has_one_done_list.Goals as goal

pub returns : goal.returns
returns c = has_one_done_list
