use Rattle.std.proofs.Common.{ap, ◌∙◌}
use Rattle.std.specs.FinMap.{get}
use Rattle.fileset_check.specs.m3_outside.Files.{Files}
use Rattle.fileset_check.specs.m3_outside.declared.disk_err.DiskErr.TheVariants.{Failed as DiskFailed}
use Rattle.fileset_check.proofs.commit_log_proofs.Leaves.{leaves_as, leaves_then}
use Rattle.fileset_check.proofs.commit_log_proofs.ReadLemmas.{passed_err}
use Rattle.snapshot_files.proofs.check.read_both.Goals as goal

pub returns-in_err-body-clause-leaves : goal.returns-in_err-body-clause-leaves
returns-in_err-body-clause-leaves g c =
    leaves_then _ _ (g.D.Disk.state c.args.disk.now) (g.D.Disk.state c.read_file.new.disk) (g.D.Disk.state c.read_file-2.new.disk) c.read_file.ensures.leaves
    (leaves_as _ _ (g.D.Disk.state c.read_file.new.disk) (g.D.Disk.state c.read_file-2.new.disk)
    (λ f. passed_err c.from_residual-in_err-body.result c.read_file-2.result c.in_err-body.field-0.0 DiskFailed c.in_err-body.was c.from_residual-in_err-body.ensures.1 f) c.read_file-2.ensures.leaves)

pub returns-clause-leaves : goal.returns-clause-leaves
returns-clause-leaves g c =
    leaves_then _ _ (g.D.Disk.state c.args.disk.now) (g.D.Disk.state c.read_file.new.disk) (g.D.Disk.state c.read_file-2.new.disk) c.read_file.ensures.leaves
    (leaves_as _ _ (g.D.Disk.state c.read_file.new.disk) (g.D.Disk.state c.read_file-2.new.disk) (λ f. absurd (cc)) c.read_file-2.ensures.leaves)

pub returns-clause-ok : goal.returns-clause-ok
returns-clause-ok g c = λ t.
    let told = c.read_file.ensures.leaves.proceeds.tells ∙ t in
    record {
      checkpoint = c.in_ok-gate.ensures.ok t ∙ ap (get (g.D.Disk.state c.args.disk.now).files) c.checkpoint_name.ensures;
      content = c.in_ok-body.ensures.ok told ∙ ap (λ (m : Files). get m c.data_name.result) (c.read_file.ensures.leaves.files t) ∙ ap (get (g.D.Disk.state c.args.disk.now).files) c.data_name.ensures;
    }
