use Rattle.move_laws.proofs.BootLives.{still-refused, beside-refused}
use Rattle.move_laws.proofs.bootstraps.available_shard_printed.Goals as goal

pub returns-clause-still : goal.returns-clause-still
returns-clause-still c = still-refused

pub returns-clause-beside : goal.returns-clause-beside
returns-clause-beside c = beside-refused
