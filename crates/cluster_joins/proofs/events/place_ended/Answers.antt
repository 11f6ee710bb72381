use Rattle.std.proofs.Common.{[], ◌∷◌, false, sym, subst}
use Rattle.cluster_core.specs.Legal.{IsNextPlace}
use Rattle.cluster_core.specs.declared.event.Asked.TheVariants as asked
use Rattle.cluster_core.specs.declared.event.Event.TheVariants as event
use Rattle.node_calls.proofs.session_net_proofs.RunLemmas.{ran_then}
use Rattle.cluster_placements.proofs.PlaceLemmas.{place_lawful}
use Rattle.cluster_joins.proofs.events.place_ended.Goals as goal

pub answer-requires-clause-lawful : goal.answer-requires-clause-lawful
answer-requires-clause-lawful g c tells =
    let next = c.args.next.now in
    let done = c.args.done.now in
    let behind = (c.ask.new.replicas).events in
    place_lawful next done (c.args.replicas.now).events behind c.tell_apart.ensures (c.know.ensures.legal false (λ e. cc)) (c.ask.ensures).grew (subst (λ es. IsNextPlace es next done) (sym (c.ask.ensures).grew) c.requires.comes) tells

pub returns : goal.returns
returns g c =
    let next = c.args.next.now in
    let done = c.args.done.now in
    ran_then g.D.Disk.state (event.Ask (asked.Place next done) ∷ []) (event.Place next done ∷ []) c.args.replicas.now c.ask.new.replicas c.answer.new.replicas c.ask.ensures c.answer.ensures
