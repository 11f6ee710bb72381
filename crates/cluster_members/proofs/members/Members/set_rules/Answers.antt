use Rattle.std.proofs.Common.{ap}
use Rattle.m3_model.specs.declared.rules.MetaState.{MetaState}
use Rattle.m3_model.specs.declared.rules.Rules.{Rules}
use Rattle.cluster_members.proofs.ClockLemmas.{ready_ruled}
use Rattle.cluster_members.proofs.members.Members.set_rules.Goals as goal

pub returns-clause-ready : goal.returns-clause-ready
returns-clause-ready g c =
    let net = (c.args.self.now).net in
    let was : MetaState = net.state in
    ready_ruled g.D.Disk.state was (record was { rules = c.replace.new.dest }) net.replicas c.tick.new.replicas net.bag c.args.rules c.requires.ready c.tick.ensures (ap (λ (r : Rules). record was { rules = r }) c.replace.ensures.after)
