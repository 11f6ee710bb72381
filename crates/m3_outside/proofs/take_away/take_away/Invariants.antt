use Rattle.m3_outside.proofs.Removal.{Going}
use Rattle.m3_outside.proofs.take_away.take_away.Given as goal

abbrev pub invariant-loop-name : goal.invariant-loop-name
invariant-loop-name g l = Going l.names l.name-index (g.D.Disk.state l.fn.disk) (g.D.Disk.state l.disk)
