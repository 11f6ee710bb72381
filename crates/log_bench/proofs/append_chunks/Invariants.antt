use Rattle.commit_log.specs.LogEnd.{LogEndStands}
use Rattle.log_bench.proofs.append_chunks.Given as goal

abbrev pub invariant-loop : goal.invariant-loop
invariant-loop g l = LogEndStands l.log (g.D.Disk.state l.disk)
