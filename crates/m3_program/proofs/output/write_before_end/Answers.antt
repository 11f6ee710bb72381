use Rattle.std.proofs.Common.{refl, sym, subst, ◌∙◌}
use Rattle.m3_program.specs.Passing.{outflow}
use Rattle.m3_program.specs.Causes.{EndsLine}
use Rattle.m3_program.specs.Writing.{WritesUntil}
use Rattle.m3_program.proofs.CauseLemmas.{lost_ends, lost_writes, meta_lost, sink_ends, sink_no_meta}
use Rattle.m3_program.proofs.GatherLemmas.{writes_part}
use Rattle.m3_program.proofs.output.write_before_end.Goals as goal

pub returns-in-Ok-clause-written : goal.returns-in-Ok-clause-written
returns-in-Ok-clause-written g c =
    subst (λ s. WritesUntil s (outflow (g.K.Sink.written c.args.out.now) (g.K.Sink.took c.args.out.now)) c.args.bytes.now (outflow (g.K.Sink.written c.write_all.new.out) (g.K.Sink.took c.write_all.new.out))) (sym c.of_lost.ensures)
    (lost_writes c.args.why (outflow (g.K.Sink.written c.args.out.now) (g.K.Sink.took c.args.out.now)) c.args.bytes.now (outflow (g.K.Sink.written c.write_all.new.out) (g.K.Sink.took c.write_all.new.out)) c.in-Ok.ensures.ok)

pub returns-in-Ok-clause-meta : goal.returns-in-Ok-clause-meta
returns-in-Ok-clause-meta g c = λ is. meta_lost c.args.why (sym c.of_lost.ensures ∙ is)

pub returns-in-Err-clause-meta : goal.returns-in-Err-clause-meta
returns-in-Err-clause-meta g c = λ is. absurd (sink_no_meta c.in-Err.status c.in-Err.ensures.by is)

pub returns-in-Ok-clause-cause : goal.returns-in-Ok-clause-cause
returns-in-Ok-clause-cause g c = λ before now rose.
    subst (λ s. EndsLine s (g.K.Sink.faulted c.args.out.now) (g.K.Sink.faulted c.write_all.new.out) (g.K.Sink.stalled c.args.out.now) (g.K.Sink.stalled c.write_all.new.out) before now) (sym c.of_lost.ensures)
    (lost_ends c.args.why _ _ _ _ before now rose)

pub returns-in-Err-clause-written : goal.returns-in-Err-clause-written
returns-in-Err-clause-written g c =
    let part = c.in-Err.ensures.err in
    writes_part c.in-Err.status (outflow (g.K.Sink.written c.args.out.now) (g.K.Sink.took c.args.out.now)) (outflow (g.K.Sink.written c.write_all.new.out) (g.K.Sink.took c.write_all.new.out)) c.args.bytes.now c.args.bytes.now part.0 c.in-Err.ensures.by refl part.1

pub returns-in-Err-clause-cause : goal.returns-in-Err-clause-cause
returns-in-Err-clause-cause g c = λ before now rose. sink_ends c.in-Err.status _ _ _ _ before now c.in-Err.ensures.by c.in-Err.ensures.cause
