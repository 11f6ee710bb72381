use Rattle.move_laws.proofs.BootLives.{twice-refused, order-refused, missing-refused}
use Rattle.move_laws.proofs.bootstraps.shards_out_of_order.Goals as goal

pub returns-clause-twice : goal.returns-clause-twice
returns-clause-twice c = twice-refused

pub returns-clause-order : goal.returns-clause-order
returns-clause-order c = order-refused

pub returns-clause-missing : goal.returns-clause-missing
returns-clause-missing c = missing-refused
