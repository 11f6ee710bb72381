use Rattle.shard_files.proofs.Leaves.{leaves_none}
use Rattle.fileset_read.proofs.names.counts.Goals as goal

pub returns-then-name-ne-CHECKPOINT-clause-leaves : goal.returns-then-name-ne-CHECKPOINT-clause-leaves
returns-then-name-ne-CHECKPOINT-clause-leaves g c = leaves_none _ (g.D.Disk.state c.args.disk.now) (λ f. absurd (cc))
