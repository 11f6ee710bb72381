use Rattle.std.proofs.Common.{refl}
use Rattle.served_cluster.proofs.JoinLemmas.{opens, state_here}
use Rattle.served_cluster.proofs.KeptLemmas.{still_so}
use Rattle.served_cluster.proofs.cluster.Cluster.open_node.Goals as goal

pub returns : goal.returns
returns g c =
    let opened = c.open_node.ensures in
    let old = c.args.self.now in
    let m = c.in-Some.members in
    record {
      opens = opens old m c.in-Some.is g.D.Disk.state c.args.name c.args.asked c.open_node.new.members c.open_node.result opened.booting opened.unmarked;
      state = state_here old m c.in-Some.is c.open_node.new.members.net.state opened.state;
      still = still_so old _ m c.open_node.new.members c.in-Some.is refl opened.still;
    }
