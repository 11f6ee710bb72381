use Rattle.move_laws.proofs.PlannedLives.{few_groups-caused, enough_groups-refused, later_shard-refused}
use Rattle.move_laws.proofs.steps.first_groups.Goals as goal

pub returns-clause-few : goal.returns-clause-few
returns-clause-few c = few_groups-caused

pub returns-clause-enough : goal.returns-clause-enough
returns-clause-enough c = enough_groups-refused

pub returns-clause-later : goal.returns-clause-later
returns-clause-later c = later_shard-refused
