use Rattle.fileset_read.proofs.commit_log_proofs.Leaves.{leaves_memory}
use Rattle.volume_rows.proofs.parts.read_stretch.Goals as goal

pub returns-in_err-bytes-clause-leaves : goal.returns-in_err-bytes-clause-leaves
returns-in_err-bytes-clause-leaves g c = leaves_memory c.from_residual.result (g.D.Disk.state c.args.disk.now) c.from_residual.ensures.1
