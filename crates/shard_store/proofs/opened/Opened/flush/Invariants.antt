use Rattle.shard_store.proofs.FlushLoop.{Flushing}
use Rattle.shard_store.proofs.opened.Opened.flush.Given as goal

-- the blocks so far that may be flushed are flushed
abbrev pub invariant-loop-block : goal.invariant-loop-block
invariant-loop-block g l = Flushing l.fn.rules l.block-items l.block-index l.written l.fn.self l.self (g.D.Disk.state l.fn.disk) (g.D.Disk.state l.disk)
