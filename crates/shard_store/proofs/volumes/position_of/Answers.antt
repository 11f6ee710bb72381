use Rattle.std.proofs.Common.{sym, arith}
use Rattle.store_log.specs.listed_volumes.volume_bytes.Heads.{head_of}
use Rattle.shard_store.proofs.VolumeLists.{with_next, with_here, with_last}
use Rattle.shard_store.proofs.volumes.position_of.Goals as goal

pub loop-position-preserved : goal.loop-position-preserved
loop-position-preserved c rows =
    with_next (record { head = head_of c.args.head.now; rows = rows }) c.args.listed.now c.loop-position.position c.index-listed-position.result c.loop-position-test.true c.index-listed-position.is (sym c.if-not-is_before.ensures) (c.loop-position.invariant rows)

pub returns-then-not-is_before-clause-before : goal.returns-then-not-is_before-clause-before
returns-then-not-is_before-clause-before c rows =
    with_here (record { head = head_of c.args.head.now; rows = rows }) c.args.listed.now c.loop-position.position c.index-listed-position.result c.loop-position-test.true c.index-listed-position.is (sym c.if-not-is_before.ensures) (c.loop-position.invariant rows)

pub returns-clause-before : goal.returns-clause-before
returns-clause-before c rows = with_last (record { head = head_of c.args.head.now; rows = rows }) c.args.listed.now c.loop-position.position (omega (arith, c.loop-position-test.false)) (c.loop-position.invariant rows)
