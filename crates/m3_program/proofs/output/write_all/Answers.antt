use Rattle.std.proofs.Common.{[], ◌-◌, take, drop, length, ap, refl, arith}
use Rattle.m3_program.specs.Passing.{outflow}
use Rattle.m3_program.proofs.WrittenLemmas.{wrote_more, wrote_no_more, bound_more, takes_none}
use Rattle.m3_program.proofs.output.write_all.Goals as goal

pub loop-at-preserved : goal.loop-at-preserved
loop-at-preserved g c = (
  bound_more c.args.bytes.now c.loop-at.at c.in-Ok.count c.loop-at.invariant.0 c.in-Ok.ensures.bound,
  wrote_more c.args.bytes.now c.loop-at.at c.in-Ok.count (outflow (g.K.Sink.written c.args.out.now) (g.K.Sink.took c.args.out.now)) (outflow (g.K.Sink.written c.loop-at.out) (g.K.Sink.took c.loop-at.out)) (outflow (g.K.Sink.written c.write.new.self) (g.K.Sink.took c.write.new.self)) c.loop-at.invariant.1 (record { written = c.in-Ok.ensures.bytes; took = c.in-Ok.ensures.took }),
  (let a = c.loop-at.invariant.2 in let h = c.in-Ok.ensures.cause.later in omega arith),
  (let a = c.loop-at.invariant.3 in let h = c.in-Ok.ensures.stall.later in omega arith),
)

-- the sink took nothing
pub returns-then-count-eq0-clause-err : goal.returns-then-count-eq0-clause-err
returns-then-count-eq0-clause-err g c = (
  c.loop-at.at,
  wrote_no_more (outflow (g.K.Sink.written c.args.out.now) (g.K.Sink.took c.args.out.now)) (outflow (g.K.Sink.written c.loop-at.out) (g.K.Sink.took c.loop-at.out)) (outflow (g.K.Sink.written c.write.new.self) (g.K.Sink.took c.write.new.self))
      (take c.loop-at.at c.args.bytes.now) (take c.in-Ok.count (take (length c.args.bytes.now - c.loop-at.at) (drop c.loop-at.at c.args.bytes.now))) c.loop-at.invariant.1 (ap (λ n. take n (take (length c.args.bytes.now - c.loop-at.at) (drop c.loop-at.at c.args.bytes.now))) c.if-count-eq0.true) (record { written = c.in-Ok.ensures.bytes; took = c.in-Ok.ensures.took }),
)

-- it failed
pub returns-in-Err-clause-err : goal.returns-in-Err-clause-err
returns-in-Err-clause-err g c = (
  c.loop-at.at,
  wrote_no_more (outflow (g.K.Sink.written c.args.out.now) (g.K.Sink.took c.args.out.now)) (outflow (g.K.Sink.written c.loop-at.out) (g.K.Sink.took c.loop-at.out)) (outflow (g.K.Sink.written c.write.new.self) (g.K.Sink.took c.write.new.self))
      (take c.loop-at.at c.args.bytes.now) [] c.loop-at.invariant.1 refl (takes_none (outflow (g.K.Sink.written c.loop-at.out) (g.K.Sink.took c.loop-at.out)) (outflow (g.K.Sink.written c.write.new.self) (g.K.Sink.took c.write.new.self)) c.in-Err.ensures.failed_writes_nothing c.in-Err.ensures.took),
)
