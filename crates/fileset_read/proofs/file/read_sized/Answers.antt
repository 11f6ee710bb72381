use Rattle.shard_files.proofs.Leaves.{leaves_memory}
use Rattle.fileset_read.proofs.file.read_sized.Goals as goal

pub returns-in_err-bytes-clause-leaves : goal.returns-in_err-bytes-clause-leaves
returns-in_err-bytes-clause-leaves g c = leaves_memory c.from_residual.result (g.D.Disk.state c.args.disk.now) c.from_residual.ensures.1
