use Rattle.wire_bytes.specs.Fields.{IsFault}
use Rattle.wire_bytes.specs.Bodies.{SomeCounted}
use Rattle.wire_bytes.proofs.PointLemmas.{exit_err}
use Rattle.wire_bytes.proofs.EntryLemmas.{count_fault, behind_count}
use Rattle.wire_bytes.proofs.entry_read.read_points.Goals as goal

pub returns-in_err-count-clause-err : goal.returns-in_err-count-clause-err
returns-in_err-count-clause-err c = exit_err c.from_residual.result c.in_err-count.field-0.0 (IsFault SomeCounted c.args.bytes.now c.args.at) c.from_residual.ensures.1
    (count_fault c.args.bytes.now c.args.at c.in_err-count.field-0.0 c.in_err-count.ensures.err)

pub returns-in_err-next-clause-err : goal.returns-in_err-next-clause-err
returns-in_err-next-clause-err c = exit_err c.from_residual-in_err-next.result c.in_err-next.field-0.0 (IsFault SomeCounted c.args.bytes.now c.args.at) c.from_residual-in_err-next.ensures.1
    (behind_count c.args.bytes.now c.args.at c.in_ok-count.count c.in_err-next.field-0.0 c.in_ok-count.ensures.within.0 c.in_ok-count.ensures.within.1 c.in_ok-count.ensures.ok c.in_err-next.ensures.err)
