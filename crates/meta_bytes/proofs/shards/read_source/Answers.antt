use Rattle.std.proofs.Common.{arith}
use Rattle.meta_bytes.proofs.SourceLemmas.{source_short, source_none, source_bad}
use Rattle.meta_bytes.proofs.shards.read_source.Goals as goal

pub returns-then-at-bytes-clause-err : goal.returns-then-at-bytes-clause-err
returns-then-at-bytes-clause-err c = source_short c.args.bytes.now c.args.at (omega arith)

pub returns-then-byte-clause-ok : goal.returns-then-byte-clause-ok
returns-then-byte-clause-ok c = source_none c.args.bytes.now c.args.at (omega arith) (omega arith)

pub returns-then-from-ge-MOST_NODES-clause-err : goal.returns-then-from-ge-MOST_NODES-clause-err
returns-then-from-ge-MOST_NODES-clause-err c = source_bad c.args.bytes.now c.args.at (omega arith) (omega (arith, c.from.ensures)) (λ e. omega (arith, e))
