use Rattle.saved_cluster.specs.Saved.{MayServeSaved}
use Rattle.cluster_runs.proofs.runs.tell.Given as goal

abbrev pub invariant-loop-word : goal.invariant-loop-word
invariant-loop-word g l = MayServeSaved g.X.D.Disk.state l.cluster (g.X.Disks.depot l.disks).held
