use Rattle.std.proofs.Common.{◌∙◌, ap}
use Rattle.snapshot_files.specs.m3_outside.declared.disk_err.DiskErr.TheVariants.{Memory}
use Rattle.snapshot_files.specs.m3_outside.Files.{files_with_zeros}
use Rattle.snapshot_files.proofs.m3_outside_proofs.Moments.{becomes_both, becomes_stays}
use Rattle.snapshot_files.specs.commit_log.Segment.{segment}
use Rattle.snapshot_files.proofs.commit_log_proofs.Begin.{stands_stays}
use Rattle.volume_steps.proofs.RemovalLemmas.{left_moment, left_known}
use Rattle.snapshot_files.specs.shard_files.Steps.{next_snapshot}
use Rattle.snapshot_steps.proofs.NextNumbers.{begun_next}
use Rattle.snapshot_steps.proofs.StepLemmas.{then_keeps, begin_moment, begin_known, err_is, err_to, same_stands}
use Rattle.snapshot_steps.proofs.segment.begin_segment.Goals as goal

pub returns-in_err-segments-clause-unchanged : goal.returns-in_err-segments-clause-unchanged
returns-in_err-segments-clause-unchanged g c tells wanted =
    becomes_stays _ (g.D.Disk.state c.args.disk.now) (g.D.Disk.state c.list_segments.new.disk) c.list_segments.ensures.leaves tells

pub returns-in_err-segments-clause-any_moment : goal.returns-in_err-segments-clause-any_moment
returns-in_err-segments-clause-any_moment g c kept memory known tenure fence each have tells =
    left_moment _ (g.D.Disk.state c.args.disk.now) (g.D.Disk.state c.list_segments.new.disk) c.list_segments.ensures.leaves kept memory known tenure fence each have tells

pub returns-in_err-segments-clause-log_stands : goal.returns-in_err-segments-clause-log_stands
returns-in_err-segments-clause-log_stands g c wanted stands =
    stands_stays c.args.log.now _ (g.D.Disk.state c.args.disk.now) (g.D.Disk.state c.list_segments.new.disk) c.list_segments.ensures.leaves stands

pub returns-in_err-log-clause-unchanged : goal.returns-in_err-log-clause-unchanged
returns-in_err-log-clause-unchanged g c tells wanted =
    becomes_both (λ files. files) (λ files. files) (λ files. files) (g.D.Disk.state c.args.disk.now) (g.D.Disk.state c.list_segments.new.disk) (g.D.Disk.state c.begin.new.disk) (λ x y e. e) (becomes_stays _ (g.D.Disk.state c.args.disk.now) (g.D.Disk.state c.list_segments.new.disk) c.list_segments.ensures.leaves tells)
    (c.begin.ensures.memory (c.list_segments.ensures.leaves.proceeds.tells ∙ tells) (err_to c.begin.result c.from_residual-in_err-log.result c.in_err-log.field-0.0 Memory c.in_err-log.was (err_is c.from_residual-in_err-log.result c.in_err-log.field-0.0 c.from_residual-in_err-log.ensures) wanted))

pub returns-in_err-log-clause-any_moment : goal.returns-in_err-log-clause-any_moment
returns-in_err-log-clause-any_moment g c kept memory known tenure fence each have tells =
    then_keeps kept (g.D.Disk.state c.args.disk.now) (g.D.Disk.state c.list_segments.new.disk) (g.D.Disk.state c.begin.new.disk) (left_moment _ (g.D.Disk.state c.args.disk.now) (g.D.Disk.state c.list_segments.new.disk) c.list_segments.ensures.leaves kept memory known tenure fence each have tells)
    (begin_moment c.in_ok-segments.segments.next (g.D.Disk.state c.list_segments.new.disk) (g.D.Disk.state c.begin.new.disk) (g.met.D.Disk.lawful c.list_segments.new.disk) c.in_ok-segments.ensures.fresh kept memory known tenure fence (left_known _ (g.D.Disk.state c.args.disk.now) (g.D.Disk.state c.list_segments.new.disk) c.list_segments.ensures.leaves each) have (c.list_segments.ensures.leaves.proceeds.tells ∙ tells) (c.begin.ensures.any_moment (c.list_segments.ensures.leaves.proceeds.tells ∙ tells)))

pub returns-in_err-log-clause-known : goal.returns-in_err-log-clause-known
returns-in_err-log-clause-known g c memory known tenure fence each =
    begin_known c.in_ok-segments.segments.next (g.D.Disk.state c.list_segments.new.disk) (g.D.Disk.state c.begin.new.disk) (g.met.D.Disk.lawful c.list_segments.new.disk) c.in_ok-segments.ensures.fresh memory known tenure fence c.begin.ensures.tells c.begin.ensures.any_moment (left_known _ (g.D.Disk.state c.args.disk.now) (g.D.Disk.state c.list_segments.new.disk) c.list_segments.ensures.leaves each)

pub returns-in_err-log-clause-log_stands : goal.returns-in_err-log-clause-log_stands
returns-in_err-log-clause-log_stands g c wanted stands =
    same_stands c.args.log.now (g.D.Disk.state c.list_segments.new.disk) (g.D.Disk.state c.begin.new.disk) c.begin.ensures.tells (λ told. c.begin.ensures.memory told (err_to c.begin.result c.from_residual-in_err-log.result c.in_err-log.field-0.0 Memory c.in_err-log.was (err_is c.from_residual-in_err-log.result c.in_err-log.field-0.0 c.from_residual-in_err-log.ensures) wanted)) (stands_stays c.args.log.now _ (g.D.Disk.state c.args.disk.now) (g.D.Disk.state c.list_segments.new.disk) c.list_segments.ensures.leaves stands)

pub returns-clause-any_moment : goal.returns-clause-any_moment
returns-clause-any_moment g c kept memory known tenure fence each have tells =
    then_keeps kept (g.D.Disk.state c.args.disk.now) (g.D.Disk.state c.list_segments.new.disk) (g.D.Disk.state c.begin.new.disk) (left_moment _ (g.D.Disk.state c.args.disk.now) (g.D.Disk.state c.list_segments.new.disk) c.list_segments.ensures.leaves kept memory known tenure fence each have tells)
    (begin_moment c.in_ok-segments.segments.next (g.D.Disk.state c.list_segments.new.disk) (g.D.Disk.state c.begin.new.disk) (g.met.D.Disk.lawful c.list_segments.new.disk) c.in_ok-segments.ensures.fresh kept memory known tenure fence (left_known _ (g.D.Disk.state c.args.disk.now) (g.D.Disk.state c.list_segments.new.disk) c.list_segments.ensures.leaves each) have (c.list_segments.ensures.leaves.proceeds.tells ∙ tells) (c.begin.ensures.any_moment (c.list_segments.ensures.leaves.proceeds.tells ∙ tells)))

pub returns-clause-known : goal.returns-clause-known
returns-clause-known g c memory known tenure fence each =
    begin_known c.in_ok-segments.segments.next (g.D.Disk.state c.list_segments.new.disk) (g.D.Disk.state c.begin.new.disk) (g.met.D.Disk.lawful c.list_segments.new.disk) c.in_ok-segments.ensures.fresh memory known tenure fence c.begin.ensures.tells c.begin.ensures.any_moment (left_known _ (g.D.Disk.state c.args.disk.now) (g.D.Disk.state c.list_segments.new.disk) c.list_segments.ensures.leaves each)

pub returns-in_err-segments-clause-snapshots : goal.returns-in_err-segments-clause-snapshots
returns-in_err-segments-clause-snapshots g c tells = ap next_snapshot (c.list_segments.ensures.leaves.files tells)

pub returns-in_err-log-clause-snapshots : goal.returns-in_err-log-clause-snapshots
returns-in_err-log-clause-snapshots g c tells =
    begun_next c.in_ok-segments.segments.next (g.D.Disk.state c.list_segments.new.disk) (g.D.Disk.state c.begin.new.disk) (c.begin.ensures.files (c.list_segments.ensures.leaves.proceeds.tells ∙ tells)) ∙ ap next_snapshot (c.list_segments.ensures.leaves.files tells)

pub returns-clause-snapshots : goal.returns-clause-snapshots
returns-clause-snapshots g c tells =
    begun_next c.in_ok-segments.segments.next (g.D.Disk.state c.list_segments.new.disk) (g.D.Disk.state c.begin.new.disk) (c.begin.ensures.files (c.list_segments.ensures.leaves.proceeds.tells ∙ tells)) ∙ ap next_snapshot (c.list_segments.ensures.leaves.files tells)

pub returns-clause-made : goal.returns-clause-made
returns-clause-made g c tells = (c.in_ok-log.ensures.made (c.list_segments.ensures.leaves.proceeds.tells ∙ tells)).files ∙ ap (files_with_zeros (segment c.in_ok-segments.segments.next) 65536) (c.list_segments.ensures.leaves.files tells)
