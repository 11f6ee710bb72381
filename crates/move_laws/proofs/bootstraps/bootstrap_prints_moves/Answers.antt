use Rattle.move_laws.proofs.BootLives.{ended-caused, passed_over-caused, of_shard-caused}
use Rattle.move_laws.proofs.bootstraps.bootstrap_prints_moves.Goals as goal

pub returns-clause-ended : goal.returns-clause-ended
returns-clause-ended c = ended-caused

pub returns-clause-passed_over : goal.returns-clause-passed_over
returns-clause-passed_over c = passed_over-caused

pub returns-clause-of_shard : goal.returns-clause-of_shard
returns-clause-of_shard c = of_shard-caused
