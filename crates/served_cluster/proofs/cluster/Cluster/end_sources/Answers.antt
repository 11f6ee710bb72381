use Rattle.served_cluster.proofs.JoinLemmas.{ends, here}
use Rattle.served_cluster.proofs.cluster.Cluster.end_sources.Goals as goal

pub end_sources-requires : goal.end_sources-requires
end_sources-requires g c = here c.args.self.now c.in-Some.members c.in-Some.is _ c.requires

pub returns : goal.returns
returns g c =
    let ended = c.end_sources.ensures in
    ends c.args.self.now c.in-Some.members c.in-Some.is g.D.Disk.state c.args.marked c.end_sources.result c.end_sources.new.members ended.ended ended.booted ended.still
