use Rattle.model_laws.proofs.CausedLives.{second_took-caused, second_unmet-caused}
use Rattle.model_laws.proofs.accepted.shard_of_its_identifier.Goals as goal

pub returns-clause-taken : goal.returns-clause-taken
returns-clause-taken c = second_took-caused

pub returns-clause-refused : goal.returns-clause-refused
returns-clause-refused c = second_unmet-caused
