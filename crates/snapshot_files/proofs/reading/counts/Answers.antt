use Rattle.fileset_check.proofs.commit_log_proofs.Leaves.{leaves_none}
use Rattle.snapshot_files.proofs.reading.counts.Goals as goal

pub returns-then-name-ne-CHECKPOINT-clause-leaves : goal.returns-then-name-ne-CHECKPOINT-clause-leaves
returns-then-name-ne-CHECKPOINT-clause-leaves g c = leaves_none _ (g.D.Disk.state c.args.disk.now) (λ f. absurd (cc))
