use Rattle.std.proofs.Common.{refl}
use Rattle.served_cluster.proofs.JoinLemmas.{here, state_by}
use Rattle.served_cluster.proofs.KeptLemmas.{still_so}
use Rattle.served_cluster.proofs.cluster.Cluster.mark.Goals as goal

pub mark-requires : goal.mark-requires
mark-requires g c = here c.args.self.now c.in-Some.members c.in-Some.is _ c.requires

pub returns : goal.returns
returns g c =
    let marks = c.mark.ensures in
    let old = c.args.self.now in
    let m = c.in-Some.members in
    record {
      marked = record { was = m; is = c.mark.new.members; stood = c.in-Some.is; stands = refl; step = (marks.marked, marks.may_end); calls = refl };
      state = state_by old m c.in-Some.is c.args.marking c.mark.new.members.net.state marks.marked.state_is;
      still = still_so old _ m c.mark.new.members c.in-Some.is refl marks.still;
    }
