use Rattle.fileset_check.proofs.commit_log_proofs.Leaves.{leaves_as}
use Rattle.snapshot_files.proofs.check.check_snapshot.Goals as goal

pub returns-clause-leaves : goal.returns-clause-leaves
returns-clause-leaves g c = leaves_as _ _ (g.D.Disk.state c.args.disk.now) (g.D.Disk.state c.read_both.new.disk) (λ f. absurd (c.check_files.ensures.calm f)) c.read_both.ensures.leaves

pub returns-clause-ok : goal.returns-clause-ok
returns-clause-ok g c = λ t. c.check_files.ensures.ok (g.D.Disk.state c.args.disk.now).files (c.in_ok-both.ensures.ok t)

pub returns-clause-err : goal.returns-clause-err
returns-clause-err g c = λ t. c.check_files.ensures.err (g.D.Disk.state c.args.disk.now).files (c.in_ok-both.ensures.ok t)
