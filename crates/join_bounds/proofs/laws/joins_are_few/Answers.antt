use Rattle.join_bounds.proofs.FewLemmas.{held_up_few, joins_few, missed_few, part_few, unmarked_few}
use Rattle.join_bounds.proofs.laws.joins_are_few.Goals as goal

pub returns-clause-joined : goal.returns-clause-joined
returns-clause-joined c = joins_few

pub returns-clause-held_up : goal.returns-clause-held_up
returns-clause-held_up c = held_up_few

pub returns-clause-part : goal.returns-clause-part
returns-clause-part c = part_few

pub returns-clause-missed : goal.returns-clause-missed
returns-clause-missed c = missed_few

pub returns-clause-unmarked : goal.returns-clause-unmarked
returns-clause-unmarked c = unmarked_few
