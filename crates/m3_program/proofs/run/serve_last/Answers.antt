use Rattle.std.proofs.Common.{◌≡◌, [], ◌++◌, ap, sym, ◌∙◌, subst}
use Rattle.std.proofs.lemmas.Bool.{eqb-true}
use Rattle.std.proofs.lemmas.List.{nil_from_length}
use Rattle.std.proofs.lemmas.Result.{on_ok_weaker}
use Rattle.std.specs.Prelude.{Err}
use Rattle.m3_program.specs.Passing.{Takes, outflow}
use Rattle.m3_program.specs.Causes.{EndsLine}
use Rattle.m3_program.specs.Streams.{Stage, stage}
use Rattle.m3_program.specs.declared.status.Status.TheVariants as status
use Rattle.m3_program.specs.Writing.{WritesUntil}
use Rattle.m3_program.proofs.CauseLemmas.{lost_ends, lost_writes, meta_lost, sink_ends, sink_no_meta}
use Rattle.m3_program.proofs.PromiseLemmas.{may_close}
use Rattle.m3_program.proofs.WrittenLemmas.{appends_nothing, if_err_both, some_of}
use Rattle.m3_program.proofs.GatherLemmas.{writes_part}
use Rattle.m3_program.proofs.StreamLemmas.{finish_empty, finish_line, halts_fewer, halts_where_finished, drops_last}
use Rattle.m3_program.proofs.run.serve_last.Goals as goal

pub returns-then-is_empty-clause-ok : goal.returns-then-is_empty-clause-ok
returns-then-is_empty-clause-ok g c =
    let now : Stage g.row.X-D.Denot g.X.D.Disk = stage c.args.cluster.now (g.X.Disks.depot c.args.disks.now) in
    ([], appends_nothing (outflow (g.K.Sink.written c.args.out.now) (g.K.Sink.took c.args.out.now)), finish_empty g.X.D.Disk.state now c.args.line.now (nil_from_length c.args.line.now (eqb-true _ _ (sym c.if-is_empty.ensures))))

pub returns-in-Ok-clause-ok : goal.returns-in-Ok-clause-ok
returns-in-Ok-clause-ok g c =
    let old : Stage g.row.X-D.Denot g.X.D.Disk = stage c.args.cluster.now (g.X.Disks.depot c.args.disks.now) in
    let new : Stage g.row.X-D.Denot g.X.D.Disk = stage c.answer_line.new.cluster (g.X.Disks.depot c.answer_line.new.disks) in
    let w = c.in-Ok.ensures.ok in
    let text = c.as_slice.ensures.value ∙ w.1 ∙ ap (λ l. l ++ w.0) c.new-replies.ensures.items in
    on_ok_weaker c.write_all.result (λ wrote. (w.0, subst (Takes (outflow (g.K.Sink.written c.args.out.now) (g.K.Sink.took c.args.out.now)) (outflow (g.K.Sink.written c.write_all.new.out) (g.K.Sink.took c.write_all.new.out))) text wrote, finish_line g.X.D.Disk.state old new c.args.line.now w.0 (some_of c.args.line.now (sym c.is_empty.ensures ∙ c.if-is_empty.false)) w.2)) c.write_all.ensures.ok

pub returns-in-Ok-clause-err : goal.returns-in-Ok-clause-err
returns-in-Ok-clause-err g c =
    let old : Stage g.row.X-D.Denot g.X.D.Disk = stage c.args.cluster.now (g.X.Disks.depot c.args.disks.now) in
    let new : Stage g.row.X-D.Denot g.X.D.Disk = stage c.answer_line.new.cluster (g.X.Disks.depot c.answer_line.new.disks) in
    let w = c.in-Ok.ensures.ok in
    let text = c.as_slice.ensures.value ∙ w.1 ∙ ap (λ l. l ++ w.0) c.new-replies.ensures.items in
    let finishes = finish_line g.X.D.Disk.state old new c.args.line.now w.0 (some_of c.args.line.now (sym c.is_empty.ensures ∙ c.if-is_empty.false)) w.2 in
    if_err_both c.write_all.result _ _
    (λ s by part. (w.0, writes_part s (outflow (g.K.Sink.written c.args.out.now) (g.K.Sink.took c.args.out.now)) (outflow (g.K.Sink.written c.write_all.new.out) (g.K.Sink.took c.write_all.new.out)) w.0 c.as_slice.result.now part.0 by text part.1, halts_where_finished g.X.D.Disk.state old new c.args.line.now w.0 _ (sink_no_meta s by) finishes))
    c.write_all.ensures.by c.write_all.ensures.err

pub returns-in-Ok-clause-cause : goal.returns-in-Ok-clause-cause
returns-in-Ok-clause-cause g c = if_err_both c.write_all.result _ _ (λ s by rose. sink_ends s _ _ _ _ _ _ by rose) c.write_all.ensures.by c.write_all.ensures.cause

pub returns-then-is_empty-clause-close : goal.returns-then-is_empty-clause-close
returns-then-is_empty-clause-close g c = may_close g.X.D.Disk.state c.args.cluster.now (g.X.Disks.depot c.args.disks.now).held c.requires.may

pub returns-clause-err : goal.returns-clause-err
returns-clause-err g c =
    let old : Stage g.row.X-D.Denot g.X.D.Disk = stage c.args.cluster.now (g.X.Disks.depot c.args.disks.now) in
    let new : Stage g.row.X-D.Denot g.X.D.Disk = stage c.answer_line.new.cluster (g.X.Disks.depot c.answer_line.new.disks) in (
      [],
      subst (λ s. WritesUntil s (outflow (g.K.Sink.written c.args.out.now) (g.K.Sink.took c.args.out.now)) [] (outflow (g.K.Sink.written c.args.out.now) (g.K.Sink.took c.args.out.now))) (sym c.of_lost.ensures) (lost_writes c.in-Err.why (outflow (g.K.Sink.written c.args.out.now) (g.K.Sink.took c.args.out.now)) [] (outflow (g.K.Sink.written c.args.out.now) (g.K.Sink.took c.args.out.now)) (appends_nothing (outflow (g.K.Sink.written c.args.out.now) (g.K.Sink.took c.args.out.now)))),
      halts_fewer g.X.D.Disk.state old new c.args.line.now [] _ (c.of_lost.result ≡ status.DiskFault)
          (drops_last g.X.D.Disk.state old new c.args.line.now _ (some_of c.args.line.now (sym c.is_empty.ensures ∙ c.if-is_empty.false)) c.in-Err.ensures.err) (λ is. ap Err (meta_lost c.in-Err.why (sym c.of_lost.ensures ∙ is))),
    )

pub returns-clause-cause : goal.returns-clause-cause
returns-clause-cause g c =
    subst (λ s. EndsLine s (g.K.Sink.faulted c.args.out.now) (g.K.Sink.faulted c.args.out.now) (g.K.Sink.stalled c.args.out.now) (g.K.Sink.stalled c.args.out.now) (g.X.D.Disk.state c.args.cluster.now.meta).faults (g.X.D.Disk.state c.answer_line.new.cluster.meta).faults) (sym c.of_lost.ensures)
    (lost_ends c.in-Err.why _ _ _ _ _ _ (λ is. c.in-Err.ensures.meta.rose (ap Err is)))
