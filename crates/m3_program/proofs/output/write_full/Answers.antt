use Rattle.m3_program.specs.Passing.{outflow}
use Rattle.m3_program.proofs.GatherLemmas.{gathers_nothing, gathers_all, gathers_front}
use Rattle.m3_program.proofs.output.write_full.Goals as goal

pub returns-then-len-lt-FULL-clause-ok : goal.returns-then-len-lt-FULL-clause-ok
returns-then-len-lt-FULL-clause-ok g c = gathers_nothing (outflow (g.K.Sink.written c.args.out.now) (g.K.Sink.took c.args.out.now)) c.args.replies.now.items

pub returns-in-Ok-clause-ok : goal.returns-in-Ok-clause-ok
returns-in-Ok-clause-ok g c =
    gathers_all (outflow (g.K.Sink.written c.args.out.now) (g.K.Sink.took c.args.out.now)) (outflow (g.K.Sink.written c.write_all.new.out) (g.K.Sink.took c.write_all.new.out)) c.args.replies.now.items c.as_slice.result.now c.clear.new.self.items c.as_slice.ensures.value c.in-Ok.ensures.ok c.clear.ensures.items

pub returns-in-Err-clause-err : goal.returns-in-Err-clause-err
returns-in-Err-clause-err g c =
    let part = c.in-Err.ensures.err in
    gathers_front (outflow (g.K.Sink.written c.args.out.now) (g.K.Sink.took c.args.out.now)) (outflow (g.K.Sink.written c.write_all.new.out) (g.K.Sink.took c.write_all.new.out)) c.args.replies.now.items c.as_slice.result.now part.0 c.as_slice.ensures.value part.1
