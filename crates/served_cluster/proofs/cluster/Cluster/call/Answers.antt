use Rattle.std.proofs.Common.{subst}
use Rattle.served_cluster.specs.Owned.{AreReady}
use Rattle.served_cluster.proofs.ActLemmas.{made, wanted}
use Rattle.served_cluster.proofs.KeptLemmas.{call_boots_none, ready_on}
use Rattle.served_cluster.proofs.cluster.Cluster.call.Goals as goal

pub returns-then-number-clause-answers : goal.returns-then-number-clause-answers
returns-then-number-clause-answers g c =
    let next = c.next-number in
    wanted g.D.Disk.state c.args.self.now c.in-Some.members c.in-Some.is c.args.act next.result next.new.self c.requires.call next.ensures.number next.ensures.raised c.if-number.true

pub returns-clause-answers : goal.returns-clause-answers
returns-clause-answers g c =
    let next = c.next-number in
    made g.D.Disk.state c.args.self.now c.in-Some.members c.in-Some.is c.args.act c.call_on.result c.call_on.new.members next.result c.call_of.result next.new.self c.requires.call next.ensures.number next.ensures.raised c.call_of.ensures
    c.call_on.ensures.does

pub returns-clause-ready : goal.returns-clause-ready
returns-clause-ready g c =
    let call = c.call_on in
    ready_on g.D.Disk.state c.in-Some.members call.new.members c.call_of.result c.args.act call.result (call_boots_none c.args.act c.requires.call) call.ensures.does (subst AreReady c.in-Some.is c.requires.ready) call.ensures.ready
