use Rattle.m3_outside.proofs.SyncLemmas.{Synced}
use Rattle.m3_outside.proofs.sync_all.sync_all.Given as goal

abbrev pub invariant-loop-name : goal.invariant-loop-name
invariant-loop-name g l = Synced l.names l.name-index (g.D.Disk.state l.fn.disk) (g.D.Disk.state l.disk)
