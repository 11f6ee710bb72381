use Rattle.model_laws.proofs.AcceptedLives.{edge_writes-kept}
use Rattle.model_laws.proofs.CausedLives.{edge_writes-caused}
use Rattle.model_laws.proofs.accepted.window_edges.Goals as goal

pub returns-clause-kept : goal.returns-clause-kept
returns-clause-kept c = edge_writes-kept

pub returns-clause-caused : goal.returns-clause-caused
returns-clause-caused c = edge_writes-caused
