use Rattle.std.proofs.Common.{length}
use Rattle.replica_calls.proofs.cluster_core_proofs.OwnLemmas.{lawful_later}
use Rattle.session_net.proofs.RunLemmas.{ran_added}
use Rattle.session_net.proofs.adding.add.Goals as goal

pub add-requires-clause-lawful : goal.add-requires-clause-lawful
add-requires-clause-lawful g c tells all =
    let events = (c.args.replicas.now).events in
    lawful_later tells (length events) events c.args.event.now c.know.ensures.opened (c.requires.lawful tells)

pub returns-clause-ran : goal.returns-clause-ran
returns-clause-ran g c = ran_added g.D.Disk.state c.args.event.now c.in-Ok.position c.args.replicas.now c.add.new.self c.requires.no_step c.in-Ok.ensures.ok c.add.ensures.members
