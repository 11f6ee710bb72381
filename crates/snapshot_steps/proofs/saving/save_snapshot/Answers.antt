use Rattle.std.proofs.Common.{◌∙◌, ap, sym, subst}
use Rattle.snapshot_files.specs.m3_outside.declared.disk_err.DiskErr.TheVariants.{Memory}
use Rattle.snapshot_files.specs.commit_log.Contents.{numbers}
use Rattle.snapshot_files.proofs.commit_log_proofs.Begin.{stands_stays}
use Rattle.snapshot_files.specs.shard_files.Parts.{IsNewestNumber}
use Rattle.volume_steps.proofs.RemovalLemmas.{left_moment}
use Rattle.snapshot_steps.specs.Saved.{snapshot_of}
use Rattle.snapshot_steps.proofs.FilesLemmas.{unsaved_newest}
use Rattle.snapshot_steps.proofs.LogCounts.{newest_by}
use Rattle.snapshot_steps.proofs.StepLemmas.{save_moment, save_known, save_none, save_segments, save_stands, next_is_new, err_is, err_to}
use Rattle.snapshot_steps.proofs.saving.save_snapshot.Goals as goal

pub returns-in_err-number-clause-any_moment : goal.returns-in_err-number-clause-any_moment
returns-in_err-number-clause-any_moment g c kept memory known each points have tells =
    left_moment _ (g.D.Disk.state c.args.disk.now) (g.D.Disk.state c.next_number.new.disk) c.next_number.ensures.leaves kept memory known c.args.tenure c.args.fence each have tells

pub returns-in_err-number-clause-log_stands : goal.returns-in_err-number-clause-log_stands
returns-in_err-number-clause-log_stands g c log stands =
    stands_stays log _ (g.D.Disk.state c.args.disk.now) (g.D.Disk.state c.next_number.new.disk) c.next_number.ensures.leaves stands

pub save-requires-clause-fresh : goal.save-requires-clause-fresh
save-requires-clause-fresh g c = next_is_new c.in_ok-number.number (g.D.Disk.state c.args.disk.now) (g.D.Disk.state c.next_number.new.disk) _ c.next_number.ensures.leaves c.in_ok-number.ensures.ok

pub returns-in_err-save-clause-any_moment : goal.returns-in_err-save-clause-any_moment
returns-in_err-save-clause-any_moment g c kept memory known each points have tells =
    save_moment (snapshot_of c.in_ok-number.number c.args.tenure c.args.fence c.args.first c.args.points) _ (g.D.Disk.state c.args.disk.now) (g.D.Disk.state c.next_number.new.disk) (g.D.Disk.state c.save.new.disk) (g.met.D.Disk.lawful c.next_number.new.disk) c.next_number.ensures.leaves c.in_ok-number.ensures.ok memory known points kept each have tells (c.save.ensures.any_moment (c.next_number.ensures.leaves.proceeds.tells ∙ tells))

pub returns-in_err-save-clause-memory : goal.returns-in_err-save-clause-memory
returns-in_err-save-clause-memory g c memory known t f each wanted =
    save_none (snapshot_of c.in_ok-number.number c.args.tenure c.args.fence c.args.first c.args.points) _ (g.D.Disk.state c.args.disk.now) (g.D.Disk.state c.next_number.new.disk) (g.D.Disk.state c.save.new.disk) (g.met.D.Disk.lawful c.next_number.new.disk) c.next_number.ensures.leaves c.in_ok-number.ensures.ok memory known t f c.save.ensures.tells each (λ told. c.save.ensures.memory told (err_to c.save.result c.from_residual-in_err-save.result c.in_err-save.field-0.0 Memory c.in_err-save.was (err_is c.from_residual-in_err-save.result c.in_err-save.field-0.0 c.from_residual-in_err-save.ensures) wanted))

pub returns-in_err-save-clause-segments : goal.returns-in_err-save-clause-segments
returns-in_err-save-clause-segments g c tells =
    save_segments (snapshot_of c.in_ok-number.number c.args.tenure c.args.fence c.args.first c.args.points) (g.D.Disk.state c.next_number.new.disk).files (g.D.Disk.state c.save.new.disk).files (c.save.ensures.files (c.next_number.ensures.leaves.proceeds.tells ∙ tells)) ∙ ap numbers (c.next_number.ensures.leaves.files tells)

pub returns-in_err-save-clause-log_stands : goal.returns-in_err-save-clause-log_stands
returns-in_err-save-clause-log_stands g c log stands =
    save_stands (snapshot_of c.in_ok-number.number c.args.tenure c.args.fence c.args.first c.args.points) log (g.D.Disk.state c.next_number.new.disk) (g.D.Disk.state c.save.new.disk) c.save.ensures.tells c.save.ensures.files c.save.ensures.any_moment (stands_stays log _ (g.D.Disk.state c.args.disk.now) (g.D.Disk.state c.next_number.new.disk) c.next_number.ensures.leaves stands)

pub returns-clause-any_moment : goal.returns-clause-any_moment
returns-clause-any_moment g c kept memory known each points have tells =
    save_moment (snapshot_of c.in_ok-number.number c.args.tenure c.args.fence c.args.first c.args.points) _ (g.D.Disk.state c.args.disk.now) (g.D.Disk.state c.next_number.new.disk) (g.D.Disk.state c.save.new.disk) (g.met.D.Disk.lawful c.next_number.new.disk) c.next_number.ensures.leaves c.in_ok-number.ensures.ok memory known points kept each have tells (c.save.ensures.any_moment (c.next_number.ensures.leaves.proceeds.tells ∙ tells))

pub returns-clause-saved : goal.returns-clause-saved
returns-clause-saved g c memory known each points =
    save_known (snapshot_of c.in_ok-number.number c.args.tenure c.args.fence c.args.first c.args.points) _ (g.D.Disk.state c.args.disk.now) (g.D.Disk.state c.next_number.new.disk) (g.D.Disk.state c.save.new.disk) (g.met.D.Disk.lawful c.next_number.new.disk) c.next_number.ensures.leaves c.in_ok-number.ensures.ok memory known points c.save.ensures.tells each c.in_ok-save.ensures.acknowledged

pub returns-clause-segments : goal.returns-clause-segments
returns-clause-segments g c tells =
    save_segments (snapshot_of c.in_ok-number.number c.args.tenure c.args.fence c.args.first c.args.points) (g.D.Disk.state c.next_number.new.disk).files (g.D.Disk.state c.save.new.disk).files (c.save.ensures.files (c.next_number.ensures.leaves.proceeds.tells ∙ tells)) ∙ ap numbers (c.next_number.ensures.leaves.files tells)

pub returns-clause-log_stands : goal.returns-clause-log_stands
returns-clause-log_stands g c log stands =
    save_stands (snapshot_of c.in_ok-number.number c.args.tenure c.args.fence c.args.first c.args.points) log (g.D.Disk.state c.next_number.new.disk) (g.D.Disk.state c.save.new.disk) c.save.ensures.tells c.save.ensures.files c.save.ensures.any_moment (stands_stays log _ (g.D.Disk.state c.args.disk.now) (g.D.Disk.state c.next_number.new.disk) c.next_number.ensures.leaves stands)

pub returns-in_err-number-clause-newest : goal.returns-in_err-number-clause-newest
returns-in_err-number-clause-newest g c tells wanted n is = subst (IsNewestNumber n) (sym (c.next_number.ensures.leaves.files tells)) is

pub returns-in_err-save-clause-newest : goal.returns-in_err-save-clause-newest
returns-in_err-save-clause-newest g c tells wanted n is =
    let told = c.next_number.ensures.leaves.proceeds.tells ∙ tells in
    let why = c.in_err-save.field-0.0 in
    newest_by (g.D.Disk.state c.next_number.new.disk).files (g.D.Disk.state c.save.new.disk).files
    (unsaved_newest (g.D.Disk.state c.next_number.new.disk).files (g.D.Disk.state c.save.new.disk).files c.in_ok-number.number
    (next_is_new c.in_ok-number.number (g.D.Disk.state c.args.disk.now) (g.D.Disk.state c.next_number.new.disk) _ c.next_number.ensures.leaves c.in_ok-number.ensures.ok told)
    (c.save.ensures.not_there told (err_to c.save.result c.from_residual-in_err-save.result why Memory c.in_err-save.was (err_is c.from_residual-in_err-save.result why c.from_residual-in_err-save.ensures) wanted)))
    n (subst (IsNewestNumber n) (sym (c.next_number.ensures.leaves.files tells)) is)
