use Rattle.std.proofs.Common.{subst}
use Rattle.line_tracks.specs.tracks.Acts.{next_call}
use Rattle.served_cluster.specs.Owned.{AreReady}
use Rattle.served_cluster.proofs.ActLemmas.{changed, tends_alone}
use Rattle.served_cluster.proofs.KeptLemmas.{ready_on}
use Rattle.served_cluster.proofs.cluster.Cluster.tend.Goals as goal

pub returns : goal.returns
returns g c =
    let tended = c.tend_on in
    let next = next_call (c.args.self.now).calls in
    let alone = tends_alone c.args.act c.requires.tends in
    record {
      ready = ready_on g.D.Disk.state c.in-Some.members tended.new.members next c.args.act tended.result alone.2 (tended.ensures.does next) (subst AreReady c.in-Some.is c.requires.ready) tended.ensures.ready;
      answers = changed g.D.Disk.state c.args.self.now c.in-Some.members c.in-Some.is c.args.act tended.result tended.new.members alone.0 alone.1 tended.ensures.does;
    }
