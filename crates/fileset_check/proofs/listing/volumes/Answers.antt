use Rattle.std.proofs.Common.{◌≡◌, List, sym, ap, subst, ◌∙◌}
use Rattle.fileset_read.specs.m3_outside.Files.{Files}
use Rattle.fileset_read.proofs.commit_log_proofs.Leaves.{leaves_as, leaves_then}
use Rattle.fileset_read.proofs.commit_log_proofs.ReadLemmas.{passed_err}
use Rattle.fileset_read.proofs.shard_files_proofs.SegmentStops.{passed_on}
use Rattle.fileset_read.specs.shard_files.Parts.{counted_volumes}
use Rattle.fileset_check.specs.Told.{MayTell, VolumesTell}
use Rattle.fileset_check.specs.Whole.{AreVolumes}
use Rattle.fileset_check.specs.declared.volume.Volume.{Volume}
use Rattle.fileset_check.specs.declared.check_err.CheckErr.TheVariants as failures
use Rattle.fileset_check.proofs.WholeLemmas.{listed_there}
use Rattle.fileset_check.proofs.listing.volumes.Goals as goal

pub check_each-requires-clause-counted : goal.check_each-requires-clause-counted
check_each-requires-clause-counted g c = λ t. c.as_slice.ensures ∙ c.in_ok-names.ensures.ok (sym c.counted.ensures.leaves.proceeds.tells ∙ t) ∙ ap counted_volumes (sym (c.counted.ensures.leaves.files (sym c.counted.ensures.leaves.proceeds.tells ∙ t)))

pub returns-in_err-check_each-clause-leaves : goal.returns-in_err-check_each-clause-leaves
returns-in_err-check_each-clause-leaves g c =
    leaves_then _ _ (g.D.Disk.state c.args.disk.now) (g.D.Disk.state c.counted.new.disk) (g.D.Disk.state c.check_each.new.disk) c.counted.ensures.leaves
    (leaves_as _ _ (g.D.Disk.state c.counted.new.disk) (g.D.Disk.state c.check_each.new.disk)
    (λ f. passed_err c.from_residual-in_err-check_each.result c.check_each.result c.in_err-check_each.field-0.0 failures.Disk c.in_err-check_each.was c.from_residual-in_err-check_each.ensures.1 f) c.check_each.ensures.leaves)

pub returns-in_err-check_each-clause-err : goal.returns-in_err-check_each-clause-err
returns-in_err-check_each-clause-err g c = λ t.
    let leaves = c.counted.ensures.leaves in
    let files = (g.D.Disk.state c.args.disk.now).files in
    passed_on c.from_residual-in_err-check_each.result c.in_err-check_each.field-0.0 (MayTell (VolumesTell files)) c.from_residual-in_err-check_each.ensures.1
    (subst (λ (m : Files). MayTell (VolumesTell m) c.in_err-check_each.field-0.0) (leaves.files t) (c.in_err-check_each.ensures.err (leaves.proceeds.tells ∙ t)))

pub returns-clause-leaves : goal.returns-clause-leaves
returns-clause-leaves g c =
    leaves_then _ _ (g.D.Disk.state c.args.disk.now) (g.D.Disk.state c.counted.new.disk) (g.D.Disk.state c.check_each.new.disk) c.counted.ensures.leaves
    (leaves_as _ _ (g.D.Disk.state c.counted.new.disk) (g.D.Disk.state c.check_each.new.disk) (λ f. absurd (cc)) c.check_each.ensures.leaves)

pub returns-clause-ok : goal.returns-clause-ok
returns-clause-ok g c = λ t.
    let leaves = c.counted.ensures.leaves in
    let files = (g.D.Disk.state c.args.disk.now).files in
    subst (AreVolumes files) (sym c.from_vec.ensures) (subst (λ (m : Files). AreVolumes m c.check_each.new.volumes.items) (leaves.files t) (c.in_ok-check_each.ensures.ok (leaves.proceeds.tells ∙ t)))

pub returns-clause-there : goal.returns-clause-there
returns-clause-there g c = λ t.
    let leaves = c.counted.ensures.leaves in
    let files = (g.D.Disk.state c.args.disk.now).files in
    let all = subst (AreVolumes files) (sym c.from_vec.ensures) (subst (λ (m : Files). AreVolumes m c.check_each.new.volumes.items) (leaves.files t) (c.in_ok-check_each.ensures.ok (leaves.proceeds.tells ∙ t))) in
    λ v m. listed_there files (counted_volumes files) c.from_vec.result all v m
