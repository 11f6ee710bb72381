use Rattle.peer_boot.proofs.ResultLemmas.{passed_on}
use Rattle.node_joins.specs.Opens.{IsOpenTried}
use Rattle.node_joins.proofs.OpenLemmas.{begun_alone, not_begun}
use Rattle.node_joins.proofs.opens.open_alone.Goals as goal

pub returns-in_err-begin-clause-tried : goal.returns-in_err-begin-clause-tried
returns-in_err-begin-clause-tried g c =
    let state = g.D.Disk.state in
    let place = c.args.place.now in
    let own = c.args.own.now in
    let old = c.args.replicas.now in
    let new = c.begin.new.replicas in
    let e = c.in_err-begin.field-0.0 in
    passed_on c.from_residual.result e (IsOpenTried state place c.args.shard own old new) c.from_residual.ensures.1 (not_begun state place c.args.shard own c.requires.below c.requires.among old new e c.in_err-begin.ensures.tried)

pub returns-clause-tried : goal.returns-clause-tried
returns-clause-tried g c =
    begun_alone g.D.Disk.state c.args.place.now c.args.shard c.args.own.now c.requires.below c.requires.among c.args.replicas.now c.begin.new.replicas c.requires.stays c.in_ok-begin.field-0 c.in_ok-begin.ensures.tried
