use Rattle.commit_log.specs.LogEnd.{LogEndStands}
use Rattle.log_tests.proofs.logs.append_all.Given as goal

abbrev pub invariant-loop-i : goal.invariant-loop-i
invariant-loop-i g l = LogEndStands l.log (g.D.Disk.state l.disk)
