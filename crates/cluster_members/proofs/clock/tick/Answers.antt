use Rattle.std.proofs.Common.{[], ◌∷◌, false}
use Rattle.session_writes.specs.cluster_core.declared.event.Asked.TheVariants as asked
use Rattle.session_writes.specs.cluster_core.declared.event.Event.TheVariants as event
use Rattle.session_writes.proofs.session_net_proofs.RunLemmas.{ran_then}
use Rattle.cluster_members.proofs.ClockLemmas.{clock_lawful}
use Rattle.cluster_members.proofs.clock.tick.Goals as goal

pub answer-requires-clause-lawful : goal.answer-requires-clause-lawful
answer-requires-clause-lawful g c tells =
    clock_lawful c.args.rules.now (c.args.replicas.now).events (c.ask.new.replicas).events c.tell_apart.ensures (c.know.ensures.legal false (λ e. cc)) c.requires.next (c.ask.ensures).grew tells

pub returns : goal.returns
returns g c =
    ran_then g.D.Disk.state (event.Ask (asked.Clock c.args.rules.now) ∷ []) (event.Clock c.args.rules.now ∷ []) c.args.replicas.now c.ask.new.replicas c.answer.new.replicas c.ask.ensures c.answer.ensures
