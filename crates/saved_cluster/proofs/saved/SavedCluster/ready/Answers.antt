use Rattle.saved_cluster.proofs.DiskLemmas.{counts_same}
use Rattle.saved_cluster.proofs.ServeLemmas.{elapses_same}
use Rattle.saved_cluster.proofs.saved.SavedCluster.ready.Goals as goal

pub returns-in_default-clause-any_moment : goal.returns-in_default-clause-any_moment
returns-in_default-clause-any_moment g c = λ tells. elapses_same (g.D.Disk.state c.args.self.now.meta)

pub returns-in_default-clause-faults : goal.returns-in_default-clause-faults
returns-in_default-clause-faults g c = counts_same _ (g.D.Disk.state c.args.self.now.meta).faults (λ is. cc)
