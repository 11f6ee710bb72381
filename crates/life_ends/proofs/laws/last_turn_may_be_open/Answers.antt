use Rattle.life_ends.proofs.UnansweredLemmas.{unanswered_stands}
use Rattle.life_ends.proofs.laws.last_turn_may_be_open.Goals as goal

pub returns : goal.returns
returns c = unanswered_stands
