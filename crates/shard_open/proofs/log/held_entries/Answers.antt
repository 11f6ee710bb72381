use Rattle.snapshot_files.specs.shard_files.declared.load_err.LoadErr.TheVariants as failures
use Rattle.snapshot_files.proofs.commit_log_proofs.Leaves.{leaves_as, leaves_then}
use Rattle.snapshot_files.proofs.commit_log_proofs.ReadLemmas.{passed_err}
use Rattle.shard_open.proofs.log.held_entries.Goals as goal

pub returns-in_err-read_segments-clause-leaves : goal.returns-in_err-read_segments-clause-leaves
returns-in_err-read_segments-clause-leaves g c =
    leaves_then _ _ (g.D.Disk.state c.args.disk.now) (g.D.Disk.state c.list_segments.new.disk) (g.D.Disk.state c.read_segments.new.disk) c.in_ok-numbers.ensures.leaves
    (leaves_as _ _ (g.D.Disk.state c.list_segments.new.disk) (g.D.Disk.state c.read_segments.new.disk)
    (λ f. passed_err c.from_residual-in_err-read_segments.result c.read_segments.result c.in_err-read_segments.field-0.0 failures.Disk c.in_err-read_segments.was c.from_residual-in_err-read_segments.ensures.1 f) c.read_segments.ensures.leaves)

pub returns-clause-leaves : goal.returns-clause-leaves
returns-clause-leaves g c =
    leaves_then _ _ (g.D.Disk.state c.args.disk.now) (g.D.Disk.state c.list_segments.new.disk) (g.D.Disk.state c.read_segments.new.disk) c.in_ok-numbers.ensures.leaves
    (leaves_as _ _ (g.D.Disk.state c.list_segments.new.disk) (g.D.Disk.state c.read_segments.new.disk) (λ f. absurd (cc)) c.read_segments.ensures.leaves)
