use Rattle.std.proofs.Common.{subst}
use Rattle.cluster_core.specs.Legal.{Legal}
use Rattle.cluster_core.specs.Makers.{entries}
use Rattle.cluster_core.proofs.Theorem.{keeps_points}
use Rattle.cluster_core.proofs.passes.seen_reads_keep.Goals as goal

pub returns : goal.returns
returns g c = let seen = entries c.args.seat.now.seen in keeps_points seen (subst (λ b. Legal b seen) c.requires c.know.ensures.legal.legal)
