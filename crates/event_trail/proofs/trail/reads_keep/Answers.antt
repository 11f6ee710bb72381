use Rattle.std.proofs.Common.{true}
use Rattle.cluster_core.proofs.Theorem.{keeps_points}
use Rattle.event_trail.proofs.trail.reads_keep.Goals as goal

pub returns : goal.returns
returns g c = keeps_points c.args.trail.now (c.know.ensures.legal true (λ e. c.requires))
