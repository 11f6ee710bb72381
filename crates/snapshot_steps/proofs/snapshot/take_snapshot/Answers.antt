use Rattle.std.proofs.Common.{◌∙◌, ◌<◌, ℕ, List, [], ◌∷◌, ap, refl, sym, subst, arith, not}
use Rattle.std.specs.Prelude.{filter, nat_lt, IsErr}
use Rattle.m3_model.specs.declared.limits.TheConstants.{NUMBER_END}
use Rattle.snapshot_files.specs.m3_outside.DiskState.{EachImage}
use Rattle.snapshot_files.specs.m3_outside.declared.disk_err.DiskErr.TheVariants.{Memory}
use Rattle.snapshot_files.specs.commit_log.LogEnd.{LogEnd, NoneAbove}
use Rattle.snapshot_files.specs.m3_outside.Files.{Files}
use Rattle.snapshot_steps.specs.Counts.{AreCounted}
use Rattle.snapshot_steps.specs.Saved.{HoldsSaved, snapshot_of}
use Rattle.snapshot_steps.proofs.LogCounts.{counted_alike, counted_one, counted_next, saved_newest}
use Rattle.snapshot_steps.proofs.StepLemmas.{then_keeps, only_last, number_of, at_least, err_is, err_to, wanted_else}
use Rattle.snapshot_steps.proofs.snapshot.take_snapshot.Goals as goal

pub returns-in_err-first-clause-any_moment : goal.returns-in_err-first-clause-any_moment
returns-in_err-first-clause-any_moment g c kept memory known each points have tells = c.begin_segment.ensures.any_moment kept memory known c.args.tenure c.args.fence each have tells

pub returns-in_err-number-clause-any_moment : goal.returns-in_err-number-clause-any_moment
returns-in_err-number-clause-any_moment g c kept memory known each points have tells =
    then_keeps kept (g.D.Disk.state c.args.disk.now) (g.D.Disk.state c.begin_segment.new.disk) (g.D.Disk.state c.save_snapshot.new.disk) (c.begin_segment.ensures.any_moment kept memory known c.args.tenure c.args.fence each have tells)
    (c.save_snapshot.ensures.any_moment kept memory known (c.begin_segment.ensures.known memory known c.args.tenure c.args.fence each) points have (c.begin_segment.ensures.tells ∙ tells))

pub returns-in_err-cut_log-clause-any_moment : goal.returns-in_err-cut_log-clause-any_moment
returns-in_err-cut_log-clause-any_moment g c kept memory known each points have tells =
    then_keeps kept (g.D.Disk.state c.args.disk.now) (g.D.Disk.state c.save_snapshot.new.disk) (g.D.Disk.state c.cut_log.new.disk) (then_keeps kept (g.D.Disk.state c.args.disk.now) (g.D.Disk.state c.begin_segment.new.disk) (g.D.Disk.state c.save_snapshot.new.disk) (c.begin_segment.ensures.any_moment kept memory known c.args.tenure c.args.fence each have tells)
    (c.save_snapshot.ensures.any_moment kept memory known (c.begin_segment.ensures.known memory known c.args.tenure c.args.fence each) points have (c.begin_segment.ensures.tells ∙ tells)))
    (c.cut_log.ensures.any_moment (snapshot_of c.in_ok-number.number c.args.tenure c.args.fence c.in_ok-first.first c.args.points) kept memory known c.args.tenure c.args.fence (c.in_ok-number.ensures.saved memory known (c.begin_segment.ensures.known memory known c.args.tenure c.args.fence each) points) have (c.save_snapshot.ensures.tells ∙ c.begin_segment.ensures.tells ∙ tells))

pub returns-in_err-clear_snapshots-clause-any_moment : goal.returns-in_err-clear_snapshots-clause-any_moment
returns-in_err-clear_snapshots-clause-any_moment g c kept memory known each points have tells =
    then_keeps kept (g.D.Disk.state c.args.disk.now) (g.D.Disk.state c.cut_log.new.disk) (g.D.Disk.state c.clear_snapshots.new.disk) (then_keeps kept (g.D.Disk.state c.args.disk.now) (g.D.Disk.state c.save_snapshot.new.disk) (g.D.Disk.state c.cut_log.new.disk) (then_keeps kept (g.D.Disk.state c.args.disk.now) (g.D.Disk.state c.begin_segment.new.disk) (g.D.Disk.state c.save_snapshot.new.disk) (c.begin_segment.ensures.any_moment kept memory known c.args.tenure c.args.fence each have tells)
    (c.save_snapshot.ensures.any_moment kept memory known (c.begin_segment.ensures.known memory known c.args.tenure c.args.fence each) points have (c.begin_segment.ensures.tells ∙ tells)))
    (c.cut_log.ensures.any_moment (snapshot_of c.in_ok-number.number c.args.tenure c.args.fence c.in_ok-first.first c.args.points) kept memory known c.args.tenure c.args.fence (c.in_ok-number.ensures.saved memory known (c.begin_segment.ensures.known memory known c.args.tenure c.args.fence each) points) have (c.save_snapshot.ensures.tells ∙ c.begin_segment.ensures.tells ∙ tells)))
    (c.clear_snapshots.ensures.any_moment (snapshot_of c.in_ok-number.number c.args.tenure c.args.fence c.in_ok-first.first c.args.points) kept memory known c.args.tenure c.args.fence (omega arith) (c.cut_log.ensures.saved (snapshot_of c.in_ok-number.number c.args.tenure c.args.fence c.in_ok-first.first c.args.points) memory known c.args.tenure c.args.fence (c.in_ok-number.ensures.saved memory known (c.begin_segment.ensures.known memory known c.args.tenure c.args.fence each) points)) have (c.cut_log.ensures.tells ∙ c.save_snapshot.ensures.tells ∙ c.begin_segment.ensures.tells ∙ tells))

pub returns-clause-any_moment : goal.returns-clause-any_moment
returns-clause-any_moment g c kept memory known each points have tells =
    then_keeps kept (g.D.Disk.state c.args.disk.now) (g.D.Disk.state c.cut_log.new.disk) (g.D.Disk.state c.clear_snapshots.new.disk) (then_keeps kept (g.D.Disk.state c.args.disk.now) (g.D.Disk.state c.save_snapshot.new.disk) (g.D.Disk.state c.cut_log.new.disk) (then_keeps kept (g.D.Disk.state c.args.disk.now) (g.D.Disk.state c.begin_segment.new.disk) (g.D.Disk.state c.save_snapshot.new.disk) (c.begin_segment.ensures.any_moment kept memory known c.args.tenure c.args.fence each have tells)
    (c.save_snapshot.ensures.any_moment kept memory known (c.begin_segment.ensures.known memory known c.args.tenure c.args.fence each) points have (c.begin_segment.ensures.tells ∙ tells)))
    (c.cut_log.ensures.any_moment (snapshot_of c.in_ok-number.number c.args.tenure c.args.fence c.in_ok-first.first c.args.points) kept memory known c.args.tenure c.args.fence (c.in_ok-number.ensures.saved memory known (c.begin_segment.ensures.known memory known c.args.tenure c.args.fence each) points) have (c.save_snapshot.ensures.tells ∙ c.begin_segment.ensures.tells ∙ tells)))
    (c.clear_snapshots.ensures.any_moment (snapshot_of c.in_ok-number.number c.args.tenure c.args.fence c.in_ok-first.first c.args.points) kept memory known c.args.tenure c.args.fence (omega arith) (c.cut_log.ensures.saved (snapshot_of c.in_ok-number.number c.args.tenure c.args.fence c.in_ok-first.first c.args.points) memory known c.args.tenure c.args.fence (c.in_ok-number.ensures.saved memory known (c.begin_segment.ensures.known memory known c.args.tenure c.args.fence each) points)) have (c.cut_log.ensures.tells ∙ c.save_snapshot.ensures.tells ∙ c.begin_segment.ensures.tells ∙ tells))

pub returns-in_err-first-clause-memory : goal.returns-in_err-first-clause-memory
returns-in_err-first-clause-memory g c memory known each points wanted = c.begin_segment.ensures.known memory known c.args.tenure c.args.fence each

pub returns-in_err-number-clause-memory : goal.returns-in_err-number-clause-memory
returns-in_err-number-clause-memory g c memory known each points wanted =
    c.save_snapshot.ensures.memory memory known c.args.tenure c.args.fence (c.begin_segment.ensures.known memory known c.args.tenure c.args.fence each) (err_to c.save_snapshot.result c.from_residual-in_err-number.result c.in_err-number.field-0.0 Memory c.in_err-number.was (err_is c.from_residual-in_err-number.result c.in_err-number.field-0.0 c.from_residual-in_err-number.ensures) wanted)

pub returns-in_err-cut_log-clause-memory : goal.returns-in_err-cut_log-clause-memory
returns-in_err-cut_log-clause-memory g c memory known each points wanted =
    λ tells files image. ((c.cut_log.ensures.saved (snapshot_of c.in_ok-number.number c.args.tenure c.args.fence c.in_ok-first.first c.args.points) memory known c.args.tenure c.args.fence (c.in_ok-number.ensures.saved memory known (c.begin_segment.ensures.known memory known c.args.tenure c.args.fence each) points)) tells files image).holds

pub returns-in_err-clear_snapshots-clause-memory : goal.returns-in_err-clear_snapshots-clause-memory
returns-in_err-clear_snapshots-clause-memory g c memory known each points wanted =
    λ tells files image. ((c.clear_snapshots.ensures.saved (snapshot_of c.in_ok-number.number c.args.tenure c.args.fence c.in_ok-first.first c.args.points) memory known c.args.tenure c.args.fence (omega arith) (c.cut_log.ensures.saved (snapshot_of c.in_ok-number.number c.args.tenure c.args.fence c.in_ok-first.first c.args.points) memory known c.args.tenure c.args.fence (c.in_ok-number.ensures.saved memory known (c.begin_segment.ensures.known memory known c.args.tenure c.args.fence each) points))) tells files image).holds

pub returns-in_err-first-clause-log_stands : goal.returns-in_err-first-clause-log_stands
returns-in_err-first-clause-log_stands g c wanted stands =
    c.begin_segment.ensures.log_stands (err_to c.begin_segment.result c.from_residual.result c.in_err-first.field-0.0 Memory c.in_err-first.was (err_is c.from_residual.result c.in_err-first.field-0.0 c.from_residual.ensures) wanted) stands

pub returns-in_err-number-clause-log_stands : goal.returns-in_err-number-clause-log_stands
returns-in_err-number-clause-log_stands g c wanted stands = c.save_snapshot.ensures.log_stands c.begin_segment.new.log c.in_ok-first.ensures.stands

pub returns-in_err-cut_log-clause-log_stands : goal.returns-in_err-cut_log-clause-log_stands
returns-in_err-cut_log-clause-log_stands g c wanted stands =
    c.cut_log.ensures.log_stands c.begin_segment.new.log (at_least c.in_ok-first.first c.begin_segment.new.log c.in_ok-first.ensures.end) (c.save_snapshot.ensures.log_stands c.begin_segment.new.log c.in_ok-first.ensures.stands)

pub returns-in_err-clear_snapshots-clause-log_stands : goal.returns-in_err-clear_snapshots-clause-log_stands
returns-in_err-clear_snapshots-clause-log_stands g c wanted stands =
    c.clear_snapshots.ensures.log_stands c.begin_segment.new.log (c.cut_log.ensures.log_stands c.begin_segment.new.log (at_least c.in_ok-first.first c.begin_segment.new.log c.in_ok-first.ensures.end) (c.save_snapshot.ensures.log_stands c.begin_segment.new.log c.in_ok-first.ensures.stands))

pub returns-clause-stands : goal.returns-clause-stands
returns-clause-stands g c =
    c.clear_snapshots.ensures.log_stands c.begin_segment.new.log (c.cut_log.ensures.log_stands c.begin_segment.new.log (at_least c.in_ok-first.first c.begin_segment.new.log c.in_ok-first.ensures.end) (c.save_snapshot.ensures.log_stands c.begin_segment.new.log c.in_ok-first.ensures.stands))

pub returns-clause-saved : goal.returns-clause-saved
returns-clause-saved g c memory known each points =
    subst (λ (n : ℕ). EachImage (g.D.Disk.state c.clear_snapshots.new.disk) (HoldsSaved (snapshot_of c.in_ok-number.number c.args.tenure c.args.fence n c.args.points) memory known c.args.tenure c.args.fence)) (sym (number_of c.in_ok-first.first c.begin_segment.new.log c.in_ok-first.ensures.end)) (c.clear_snapshots.ensures.saved (snapshot_of c.in_ok-number.number c.args.tenure c.args.fence c.in_ok-first.first c.args.points) memory known c.args.tenure c.args.fence (omega arith) (c.cut_log.ensures.saved (snapshot_of c.in_ok-number.number c.args.tenure c.args.fence c.in_ok-first.first c.args.points) memory known c.args.tenure c.args.fence (c.in_ok-number.ensures.saved memory known (c.begin_segment.ensures.known memory known c.args.tenure c.args.fence each) points)))

pub returns-clause-alone : goal.returns-clause-alone
returns-clause-alone g c memory known each points =
    c.in_ok-clear_snapshots.ensures.alone (snapshot_of c.in_ok-number.number c.args.tenure c.args.fence c.in_ok-first.first c.args.points) memory known c.args.tenure c.args.fence refl (c.cut_log.ensures.saved (snapshot_of c.in_ok-number.number c.args.tenure c.args.fence c.in_ok-first.first c.args.points) memory known c.args.tenure c.args.fence (c.in_ok-number.ensures.saved memory known (c.begin_segment.ensures.known memory known c.args.tenure c.args.fence each) points))

pub returns-clause-segments : goal.returns-clause-segments
returns-clause-segments g c tells =
    c.clear_snapshots.ensures.segments (c.cut_log.ensures.tells ∙ c.save_snapshot.ensures.tells ∙ c.begin_segment.ensures.tells ∙ tells) ∙ c.in_ok-cut_log.ensures.segments (c.save_snapshot.ensures.tells ∙ c.begin_segment.ensures.tells ∙ tells) ∙ ap (λ (l : List ℕ). filter (λ n. not (nat_lt n c.in_ok-first.first)) l) (c.save_snapshot.ensures.segments (c.begin_segment.ensures.tells ∙ tells))
    ∙ only_last c.in_ok-first.first (g.D.Disk.state c.begin_segment.new.disk).files (c.in_ok-first.ensures.there tells) (subst (λ (n : ℕ). NoneAbove n (g.D.Disk.state c.begin_segment.new.disk).files) (number_of c.in_ok-first.first c.begin_segment.new.log c.in_ok-first.ensures.end) (c.in_ok-first.ensures.stands.above (c.begin_segment.ensures.tells ∙ tells)))
    ∙ ap (λ (n : ℕ). n ∷ []) (sym (number_of c.in_ok-first.first c.begin_segment.new.log c.in_ok-first.ensures.end))

pub returns-clause-next : goal.returns-clause-next
returns-clause-next g c tells = c.in_ok-number.ensures.number (c.begin_segment.ensures.tells ∙ tells) ∙ c.begin_segment.ensures.snapshots tells

-- ---- what was counted

pub returns-in_err-first-clause-counted : goal.returns-in_err-first-clause-counted
returns-in_err-first-clause-counted g c memory known each points tells fine has =
    let why = c.in_err-first.field-0.0 in
    let wanted = wanted_else c.begin_segment.result c.from_residual.result why c.in_err-first.was (err_is c.from_residual.result why c.from_residual.ensures) fine in
    subst (λ (l : LogEnd). AreCounted l c.args.counts.now.missing c.args.counts.now.snapshot (g.D.Disk.state c.begin_segment.new.disk).files) (sym (c.begin_segment.ensures.same (subst IsErr (sym c.in_err-first.was) refl)))
    (subst (λ (f : Files). AreCounted c.args.log.now c.args.counts.now.missing c.args.counts.now.snapshot f) (sym (c.begin_segment.ensures.unchanged tells wanted).files) has)

pub returns-in_err-number-clause-counted : goal.returns-in_err-number-clause-counted
returns-in_err-number-clause-counted g c memory known each points tells fine has =
    let why = c.in_err-number.field-0.0 in
    let wanted = wanted_else c.save_snapshot.result c.from_residual-in_err-number.result why c.in_err-number.was (err_is c.from_residual-in_err-number.result why c.from_residual-in_err-number.ensures) fine in
    let told = c.begin_segment.ensures.tells ∙ tells in
    let b = counted_next c.args.log.now c.begin_segment.new.log c.in_ok-first.first (g.D.Disk.state c.args.disk.now).files (g.D.Disk.state c.begin_segment.new.disk).files (c.in_ok-first.ensures.number tells) (c.in_ok-first.ensures.made tells)
    (number_of c.in_ok-first.first c.begin_segment.new.log c.in_ok-first.ensures.end) c.in_ok-first.ensures.limit c.args.counts.now.missing c.args.counts.now.snapshot has in
    counted_alike c.begin_segment.new.log c.args.counts.now.missing c.args.counts.now.snapshot c.args.counts.now.snapshot (g.D.Disk.state c.begin_segment.new.disk).files (g.D.Disk.state c.save_snapshot.new.disk).files
    (c.save_snapshot.ensures.segments told) (c.save_snapshot.ensures.newest told wanted c.args.counts.now.snapshot b.newest) b

pub returns-in_err-cut_log-clause-counted : goal.returns-in_err-cut_log-clause-counted
returns-in_err-cut_log-clause-counted g c memory known each points tells fine has =
    let why = c.in_err-cut_log.field-0.0 in
    let wanted = wanted_else c.cut_log.result c.from_residual-in_err-cut_log.result why c.in_err-cut_log.was (err_is c.from_residual-in_err-cut_log.result why c.from_residual-in_err-cut_log.ensures) fine in
    let told = c.begin_segment.ensures.tells ∙ tells in
    let then = c.save_snapshot.ensures.tells ∙ told in
    let files = (g.D.Disk.state c.save_snapshot.new.disk).files in
    let saved = c.in_ok-number.ensures.saved memory known (c.begin_segment.ensures.known memory known c.args.tenure c.args.fence each) points then files ((g.met.D.Disk.lawful c.save_snapshot.new.disk).read_is_image then) in
    subst (λ (f : Files). AreCounted c.begin_segment.new.log c.args.counts.now.missing c.in_ok-number.number f) (sym (c.cut_log.ensures.memory then wanted).files)
    (counted_alike c.begin_segment.new.log c.args.counts.now.missing c.args.counts.now.snapshot c.in_ok-number.number (g.D.Disk.state c.begin_segment.new.disk).files files
    (c.save_snapshot.ensures.segments told) (saved_newest (snapshot_of c.in_ok-number.number c.args.tenure c.args.fence c.in_ok-first.first c.args.points) memory known c.args.tenure c.args.fence files saved) (counted_next c.args.log.now c.begin_segment.new.log c.in_ok-first.first (g.D.Disk.state c.args.disk.now).files (g.D.Disk.state c.begin_segment.new.disk).files (c.in_ok-first.ensures.number tells) (c.in_ok-first.ensures.made tells)
    (number_of c.in_ok-first.first c.begin_segment.new.log c.in_ok-first.ensures.end) c.in_ok-first.ensures.limit c.args.counts.now.missing c.args.counts.now.snapshot has))

pub returns-in_err-clear_snapshots-clause-counted : goal.returns-in_err-clear_snapshots-clause-counted
returns-in_err-clear_snapshots-clause-counted g c memory known each points tells fine has =
    let then = c.clear_snapshots.ensures.tells ∙ c.cut_log.ensures.tells ∙ c.save_snapshot.ensures.tells ∙ c.begin_segment.ensures.tells ∙ tells in
    let files = (g.D.Disk.state c.clear_snapshots.new.disk).files in
    let here = number_of c.in_ok-first.first c.begin_segment.new.log c.in_ok-first.ensures.end in
    counted_one c.begin_segment.new.log c.in_ok-first.first c.in_ok-number.number (g.D.Disk.state c.clear_snapshots.new.disk).files here (subst (λ (n : ℕ). n < NUMBER_END) (sym here) c.in_ok-first.ensures.limit)
    (c.clear_snapshots.ensures.segments (c.cut_log.ensures.tells ∙ c.save_snapshot.ensures.tells ∙ c.begin_segment.ensures.tells ∙ tells) ∙ c.in_ok-cut_log.ensures.segments (c.save_snapshot.ensures.tells ∙ c.begin_segment.ensures.tells ∙ tells)
    ∙ ap (λ (l : List ℕ). filter (λ n. not (nat_lt n c.in_ok-first.first)) l) (c.save_snapshot.ensures.segments (c.begin_segment.ensures.tells ∙ tells))
    ∙ only_last c.in_ok-first.first (g.D.Disk.state c.begin_segment.new.disk).files (c.in_ok-first.ensures.there tells) (subst (λ (n : ℕ). NoneAbove n (g.D.Disk.state c.begin_segment.new.disk).files) here (c.in_ok-first.ensures.stands.above (c.begin_segment.ensures.tells ∙ tells))))
    (saved_newest (snapshot_of c.in_ok-number.number c.args.tenure c.args.fence c.in_ok-first.first c.args.points) memory known c.args.tenure c.args.fence files
    (c.clear_snapshots.ensures.saved (snapshot_of c.in_ok-number.number c.args.tenure c.args.fence c.in_ok-first.first c.args.points) memory known c.args.tenure c.args.fence (omega arith) (c.cut_log.ensures.saved (snapshot_of c.in_ok-number.number c.args.tenure c.args.fence c.in_ok-first.first c.args.points) memory known c.args.tenure c.args.fence (c.in_ok-number.ensures.saved memory known (c.begin_segment.ensures.known memory known c.args.tenure c.args.fence each) points)) then files ((g.met.D.Disk.lawful c.clear_snapshots.new.disk).read_is_image then)))

pub returns-clause-counted : goal.returns-clause-counted
returns-clause-counted g c memory known each points tells fine has =
    let then = c.clear_snapshots.ensures.tells ∙ c.cut_log.ensures.tells ∙ c.save_snapshot.ensures.tells ∙ c.begin_segment.ensures.tells ∙ tells in
    let files = (g.D.Disk.state c.clear_snapshots.new.disk).files in
    let here = number_of c.in_ok-first.first c.begin_segment.new.log c.in_ok-first.ensures.end in
    counted_one c.begin_segment.new.log c.in_ok-first.first c.in_ok-number.number (g.D.Disk.state c.clear_snapshots.new.disk).files here (subst (λ (n : ℕ). n < NUMBER_END) (sym here) c.in_ok-first.ensures.limit)
    (c.clear_snapshots.ensures.segments (c.cut_log.ensures.tells ∙ c.save_snapshot.ensures.tells ∙ c.begin_segment.ensures.tells ∙ tells) ∙ c.in_ok-cut_log.ensures.segments (c.save_snapshot.ensures.tells ∙ c.begin_segment.ensures.tells ∙ tells)
    ∙ ap (λ (l : List ℕ). filter (λ n. not (nat_lt n c.in_ok-first.first)) l) (c.save_snapshot.ensures.segments (c.begin_segment.ensures.tells ∙ tells))
    ∙ only_last c.in_ok-first.first (g.D.Disk.state c.begin_segment.new.disk).files (c.in_ok-first.ensures.there tells) (subst (λ (n : ℕ). NoneAbove n (g.D.Disk.state c.begin_segment.new.disk).files) here (c.in_ok-first.ensures.stands.above (c.begin_segment.ensures.tells ∙ tells))))
    (saved_newest (snapshot_of c.in_ok-number.number c.args.tenure c.args.fence c.in_ok-first.first c.args.points) memory known c.args.tenure c.args.fence files
    (c.clear_snapshots.ensures.saved (snapshot_of c.in_ok-number.number c.args.tenure c.args.fence c.in_ok-first.first c.args.points) memory known c.args.tenure c.args.fence (omega arith) (c.cut_log.ensures.saved (snapshot_of c.in_ok-number.number c.args.tenure c.args.fence c.in_ok-first.first c.args.points) memory known c.args.tenure c.args.fence (c.in_ok-number.ensures.saved memory known (c.begin_segment.ensures.known memory known c.args.tenure c.args.fence each) points)) then files ((g.met.D.Disk.lawful c.clear_snapshots.new.disk).read_is_image then)))
