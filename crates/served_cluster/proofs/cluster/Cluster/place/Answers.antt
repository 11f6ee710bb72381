use Rattle.served_cluster.proofs.TrackLemmas.{place_left}
use Rattle.served_cluster.proofs.cluster.Cluster.place.Goals as goal

pub returns-in-None-clause-left : goal.returns-in-None-clause-left
returns-in-None-clause-left g c = place_left g.D.Disk.state c.args.self.now

pub returns-in-Some-clause-left : goal.returns-in-Some-clause-left
returns-in-Some-clause-left g c = place_left g.D.Disk.state c.args.self.now
