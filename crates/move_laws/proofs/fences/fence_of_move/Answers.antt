use Rattle.move_laws.proofs.FenceLives.{asked-caused, ended-caused, beside-caused}
use Rattle.move_laws.proofs.fences.fence_of_move.Goals as goal

pub returns-clause-asked : goal.returns-clause-asked
returns-clause-asked c = asked-caused

pub returns-clause-ended : goal.returns-clause-ended
returns-clause-ended c = ended-caused

pub returns-clause-beside : goal.returns-clause-beside
returns-clause-beside c = beside-caused
