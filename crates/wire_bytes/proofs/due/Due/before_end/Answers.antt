use Rattle.std.proofs.Common.{arith}
use Rattle.wire_bytes.proofs.TextLemmas.{long_enough}
use Rattle.wire_bytes.proofs.due.Due.before_end.Goals as goal

pub returns-then-needed-left-clause-none : goal.returns-then-needed-left-clause-none
returns-then-needed-left-clause-none c = λ l long may.
    let h = long_enough c.in_ok-next.next l ((c.in_ok-next.ensures.steps l).1 may) in
    omega (arith, h, long, c.needed.ensures, c.if-needed-left.true)
