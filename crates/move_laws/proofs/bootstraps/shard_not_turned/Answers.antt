use Rattle.move_laws.proofs.BootLives.{stays-refused, other_names-refused, unprinted-refused}
use Rattle.move_laws.proofs.bootstraps.shard_not_turned.Goals as goal

pub returns-clause-stays : goal.returns-clause-stays
returns-clause-stays c = stays-refused

pub returns-clause-names : goal.returns-clause-names
returns-clause-names c = other_names-refused

pub returns-clause-unprinted : goal.returns-clause-unprinted
returns-clause-unprinted c = unprinted-refused
