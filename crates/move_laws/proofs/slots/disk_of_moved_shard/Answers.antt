use Rattle.move_laws.proofs.SlotLives.{ended-caused, ended_bootstrap-refused, ended_damage-refused}
use Rattle.move_laws.proofs.slots.disk_of_moved_shard.Goals as goal

pub returns-clause-restart : goal.returns-clause-restart
returns-clause-restart c = ended-caused

pub returns-clause-bootstrap : goal.returns-clause-bootstrap
returns-clause-bootstrap c = ended_bootstrap-refused

pub returns-clause-damage : goal.returns-clause-damage
returns-clause-damage c = ended_damage-refused
