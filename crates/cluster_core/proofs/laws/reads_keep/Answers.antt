use Rattle.cluster_core.proofs.Theorem.{keeps_points}
use Rattle.cluster_core.proofs.laws.reads_keep.Goals as goal

pub returns : goal.returns
returns c = keeps_points c.args._events.now
