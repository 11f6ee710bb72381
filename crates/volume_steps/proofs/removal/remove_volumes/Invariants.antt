use Rattle.volume_steps.proofs.RemovalLemmas.{Removing}
use Rattle.volume_steps.proofs.removal.remove_volumes.Given as goal

abbrev pub invariant-loop-old : goal.invariant-loop-old
invariant-loop-old g l = Removing l.olds l.old-index (g.D.Disk.state l.fn.disk) (g.D.Disk.state l.disk)
