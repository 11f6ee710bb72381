use Rattle.store_log.specs.listed_volumes.Listed.{known_in}
use Rattle.shard_store.proofs.LossLemmas.{Losing}
use Rattle.shard_store.proofs.opened.Opened.lost.Given as goal

-- so much was lost in the namespaces so far
abbrev pub invariant-loop-position : goal.invariant-loop-position
invariant-loop-position g l = Losing l.rules (known_in l.self.volumes.items) l.self.held.points l.position l.lost (g.D.Disk.state l.fn.disk) (g.D.Disk.state l.disk)
