use Rattle.placement_log.specs.MetaHolds.{MetaStands}
use Rattle.meta_tests.proofs.runs.save_all.Given as goal

-- the log is as its owner knows it
abbrev pub invariant-loop-seed : goal.invariant-loop-seed
invariant-loop-seed g l = MetaStands l.log (g.D.Disk.state l.disk)
