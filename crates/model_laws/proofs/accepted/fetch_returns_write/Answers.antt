use Rattle.model_laws.proofs.AcceptedLives.{write_then_read-kept}
use Rattle.model_laws.proofs.CausedLives.{write_then_read-caused}
use Rattle.model_laws.proofs.accepted.fetch_returns_write.Goals as goal

pub returns-clause-kept : goal.returns-clause-kept
returns-clause-kept c = write_then_read-kept

pub returns-clause-caused : goal.returns-clause-caused
returns-clause-caused c = write_then_read-caused
