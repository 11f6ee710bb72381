use Rattle.std.proofs.Common.{◌≡◌, [], ◌++◌, subst, append-nil}
use Rattle.std.proofs.lemmas.Result.{on_ok_weaker}
use Rattle.m3_program.specs.Passing.{outflow}
use Rattle.m3_program.specs.Streams.{Cuts, Stage, stage}
use Rattle.m3_program.specs.Writing.{WritesUntil}
use Rattle.m3_program.specs.declared.status.Status.TheVariants as status
use Rattle.m3_program.proofs.WrittenLemmas.{if_err_both}
use Rattle.m3_program.proofs.GatherLemmas.{writes_held, writes_front}
use Rattle.m3_program.proofs.StreamLemmas.{cuts_behind}
use Rattle.m3_program.proofs.CauseLemmas.{ends_earlier, sink_ends, sink_no_meta}
use Rattle.m3_program.proofs.input.serve_piece.Goals as goal

pub returns-in-Ok-clause-ok : goal.returns-in-Ok-clause-ok
returns-in-Ok-clause-ok g c =
    let w = c.in-Ok.ensures.ok in
    on_ok_weaker c.write_all.result
    (λ wrote. (
      w.0,
      writes_held (outflow (g.K.Sink.written c.args.out.now) (g.K.Sink.took c.args.out.now)) (outflow (g.K.Sink.written c.serve_lines.new.out) (g.K.Sink.took c.serve_lines.new.out)) (outflow (g.K.Sink.written c.write_all.new.out) (g.K.Sink.took c.write_all.new.out)) c.new-replies.result.items w.0 c.serve_lines.new.replies.items c.as_slice.result.now c.new-replies.ensures.items w.1 c.as_slice.ensures.value wrote,
      w.2,
    ))
    c.write_all.ensures.ok

pub returns-in-Ok-clause-err : goal.returns-in-Ok-clause-err
returns-in-Ok-clause-err g c =
    let first : Stage g.row.X-D.Denot g.X.D.Disk = stage c.args.cluster.now (g.X.Disks.depot c.args.disks.now) in
    let new : Stage g.row.X-D.Denot g.X.D.Disk = stage c.serve_lines.new.cluster (g.X.Disks.depot c.serve_lines.new.disks) in
    let w = c.in-Ok.ensures.ok in
    if_err_both c.write_all.result _ _
    (λ s by part. (
      w.0,
      writes_front s (outflow (g.K.Sink.written c.args.out.now) (g.K.Sink.took c.args.out.now)) (outflow (g.K.Sink.written c.serve_lines.new.out) (g.K.Sink.took c.serve_lines.new.out)) (outflow (g.K.Sink.written c.write_all.new.out) (g.K.Sink.took c.write_all.new.out)) c.new-replies.result.items w.0 c.serve_lines.new.replies.items c.as_slice.result.now part.0 by c.new-replies.ensures.items w.1 c.as_slice.ensures.value part.1,
      subst (λ p. Cuts g.X.D.Disk.state first c.args.line.now.items p w.0 new (s ≡ status.DiskFault)) (append-nil c.args.piece.now)
          (cuts_behind g.X.D.Disk.state first new c.args.line.now.items c.serve_lines.new.line.items c.args.piece.now [] w.0 _ (sink_no_meta s by) w.2),
    ))
    c.write_all.ensures.by c.write_all.ensures.err

pub returns-in-Ok-clause-cause : goal.returns-in-Ok-clause-cause
returns-in-Ok-clause-cause g c =
    let was = c.in-Ok.ensures.later in
    if_err_both c.write_all.result _ _ (λ s by rose. ends_earlier s _ _ _ _ _ _ _ (g.X.D.Disk.state c.serve_lines.new.cluster.meta).faults _ was.0 was.1 was.2 (sink_ends s _ _ _ _ _ _ by rose)) c.write_all.ensures.by c.write_all.ensures.cause

pub returns-in-Ok-clause-may : goal.returns-in-Ok-clause-may
returns-in-Ok-clause-may g c = on_ok_weaker c.write_all.result (λ wrote. c.in-Ok.ensures.may) c.write_all.ensures.ok

pub returns-clause-err : goal.returns-clause-err
returns-clause-err g c =
    let w = c.in-Err.ensures.err in
    (w.0, subst (λ l. WritesUntil c.in-Err.status (outflow (g.K.Sink.written c.args.out.now) (g.K.Sink.took c.args.out.now)) (l ++ w.0) (outflow (g.K.Sink.written c.serve_lines.new.out) (g.K.Sink.took c.serve_lines.new.out))) c.new-replies.ensures.items w.1, w.2)
