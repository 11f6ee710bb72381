use Rattle.cluster_core.proofs.Theorem.{keeps_points}
use Rattle.legal_events.proofs.legal.lists_keep.Goals as goal

pub returns : goal.returns
returns c = keeps_points
