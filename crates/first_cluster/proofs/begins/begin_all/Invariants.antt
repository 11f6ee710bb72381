use Rattle.std.proofs.Common.{take}
use Rattle.first_cluster.specs.Begins.{HaveBegun}
use Rattle.first_cluster.proofs.begins.begin_all.Given as goal

abbrev pub invariant-loop-start : goal.invariant-loop-start
invariant-loop-start g l = HaveBegun g.D.Disk.state (take l.start-index l.starts) l.fn.replicas l.replicas
