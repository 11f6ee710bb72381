use Rattle.std.proofs.Common.{ap, subst, ◌∙◌}
use Rattle.fileset_check.specs.m3_outside.Files.{Files}
use Rattle.fileset_check.specs.declared.check_err.CheckErr.TheVariants as failures
use Rattle.fileset_check.proofs.commit_log_proofs.Leaves.{leaves_as, leaves_then}
use Rattle.fileset_check.proofs.commit_log_proofs.ReadLemmas.{passed_err}
use Rattle.snapshot_files.specs.Told.{IsThere, checkpoint_of}
use Rattle.snapshot_files.proofs.NewestLemmas.{none_newest, is_newest}
use Rattle.snapshot_files.proofs.reading.newest.Goals as goal

pub returns-in_default-clause-ok : goal.returns-in_default-clause-ok
returns-in_default-clause-ok g c = λ t. none_newest (g.D.Disk.state c.args.disk.now).files (c.in_ok-number.ensures.ok t ∙ ap checkpoint_of c.in_default.is)

pub returns-in_err-check_snapshot-clause-leaves : goal.returns-in_err-check_snapshot-clause-leaves
returns-in_err-check_snapshot-clause-leaves g c =
    leaves_then _ _ (g.D.Disk.state c.args.disk.now) (g.D.Disk.state c.newest_number.new.disk) (g.D.Disk.state c.check_snapshot.new.disk) c.newest_number.ensures.leaves
    (leaves_as _ _ (g.D.Disk.state c.newest_number.new.disk) (g.D.Disk.state c.check_snapshot.new.disk)
    (λ f. passed_err c.from_residual-in_err-check_snapshot.result c.check_snapshot.result c.in_err-check_snapshot.field-0.0 failures.Disk c.in_err-check_snapshot.was c.from_residual-in_err-check_snapshot.ensures.1 f) c.check_snapshot.ensures.leaves)

pub returns-clause-leaves : goal.returns-clause-leaves
returns-clause-leaves g c =
    leaves_then _ _ (g.D.Disk.state c.args.disk.now) (g.D.Disk.state c.newest_number.new.disk) (g.D.Disk.state c.check_snapshot.new.disk) c.newest_number.ensures.leaves
    (leaves_as _ _ (g.D.Disk.state c.newest_number.new.disk) (g.D.Disk.state c.check_snapshot.new.disk) (λ f. absurd (cc)) c.check_snapshot.ensures.leaves)

pub returns-clause-ok : goal.returns-clause-ok
returns-clause-ok g c = λ t.
    let files = (g.D.Disk.state c.args.disk.now).files in
    let same = c.newest_number.ensures.leaves.files t in
    let told = c.newest_number.ensures.leaves.proceeds.tells ∙ t in
    is_newest files c.in-Some.number c.in_ok-check_snapshot.field-0 (c.in_ok-number.ensures.ok t ∙ ap checkpoint_of c.in-Some.is)
    (subst (λ (f : Files). IsThere c.in-Some.number f c.in_ok-check_snapshot.field-0) same (c.in_ok-check_snapshot.ensures.ok told))
