use Rattle.std.proofs.Common.{[], ◌∷◌, false}
use Rattle.cluster_core.specs.declared.event.Asked.TheVariants as asked
use Rattle.cluster_core.specs.declared.event.Event.TheVariants as event
use Rattle.node_calls.proofs.session_net_proofs.RunLemmas.{ran_then}
use Rattle.cluster_placements.proofs.PlaceLemmas.{next_asked, place_lawful}
use Rattle.cluster_placements.proofs.events.place.Goals as goal

pub answer-requires-clause-lawful : goal.answer-requires-clause-lawful
answer-requires-clause-lawful g c tells =
    let next = c.args.next.now in
    let past = (c.args.replicas.now).events in
    let behind = (c.ask.new.replicas).events in
    place_lawful next [] past behind c.tell_apart.ensures (c.know.ensures.legal false (λ e. cc)) (c.ask.ensures).grew (next_asked next past behind c.requires.next (c.ask.ensures).grew) tells

pub returns : goal.returns
returns g c =
    ran_then g.D.Disk.state (event.Ask (asked.Place c.args.next.now []) ∷ []) (event.Place c.args.next.now [] ∷ []) c.args.replicas.now c.ask.new.replicas c.answer.new.replicas c.ask.ensures c.answer.ensures
