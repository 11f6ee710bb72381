use Rattle.std.proofs.Common.{[], ◌∷◌, ◌++◌, ◌*◌, ◌+◌, ◌≤◌, length, ap, arith, refl, sym, subst, ◌∙◌}
use Rattle.m3_model.specs.declared.placement.Placement.{Placement}
use Rattle.m3_model.specs.declared.rules.MetaState.{MetaState}
use Rattle.node_calls.proofs.session_net_proofs.ReadyLemmas.{room_after, there_after}
use Rattle.node_calls.proofs.session_net_proofs.RunLemmas.{ran_nothing}
use Rattle.cluster_placements.specs.Slots.{AreSlotsIn}
use Rattle.cluster_placements.specs.Steps.{place_ending}
use Rattle.cluster_placements.proofs.PlacedLemmas.{ready_placed, serves_placed}
use Rattle.cluster_joins.proofs.StillLemmas.{change_still, room_first, slots_next}
use Rattle.cluster_joins.proofs.marks.mark.Goals as goal

pub place_ended-requires-clause-room : goal.place_ended-requires-clause-room
place_ended-requires-clause-room g c = room_first ((c.args.members.now).net).replicas.events (length ((c.args.marking).marked).sources.items) c.requires.room

pub returns-clause-marked : goal.returns-clause-marked
returns-clause-marked g c =
    let was : MetaState = ((c.args.members.now).net).state in
    record {
      marked_is = refl;
      ran = c.place_ended.ensures;
      state_is = ap (λ (p : Placement). record was { place = p }) c.replace-stood.ensures.after;
      past = c.push_reserved.ensures.items ∙ ap (λ (p : Placement). (c.args.members.now).past.items ++ p ∷ []) c.replace-stood.ensures.value;
      fates = refl;
      bag = refl;
      slots = refl;
      stopped = refl;
    }

pub returns-clause-may_end : goal.returns-clause-may_end
returns-clause-may_end g c =
    let net = (c.args.members.now).net in
    let was : MetaState = net.state in
    let later : MetaState = record was { place = c.replace-stood.new.dest } in
    let is = ap (λ (p : Placement). record was { place = p }) c.replace-stood.ensures.after in
    let past = c.push_reserved.ensures.items ∙ ap (λ (p : Placement). (c.args.members.now).past.items ++ p ∷ []) c.replace-stood.ensures.value in
    let state = g.D.Disk.state in
    let next = (c.args.marking).next in
    let done = (c.args.marking).done in
    let new = c.place_ended.new.replicas in
    let ready = ready_placed state was later net.replicas new new net.bag next done [] c.requires.ready c.requires.lawful c.requires.there c.place_ended.ensures (ran_nothing state new) is in
    record {
      ready = ready;
      serves = serves_placed state was later net.replicas new new net.bag (c.args.members.now).past.items c.push_reserved.new.self.items next done [] c.requires.ready c.requires.serves c.place_ended.ensures (ran_nothing state new) ready is past;
      there = λ s i. there_after state net.replicas new (place_ending next done) s c.place_ended.ensures (c.requires.sources_there s i);
      room = let len = length ((c.args.marking).marked).sources.items in room_after state net.replicas new (place_ending next done) (2 + 2 * len) (2 * len) c.place_ended.ensures c.requires.room (omega arith);
    }

pub returns-clause-still : goal.returns-clause-still
returns-clause-still g c held may =
    let net = (c.args.members.now).net in
    let was : MetaState = net.state in
    let later : MetaState = record was { place = c.replace-stood.new.dest } in
    let is = ap (λ (p : Placement). record was { place = p }) c.replace-stood.ensures.after in
    let past = c.push_reserved.ensures.items ∙ ap (λ (p : Placement). (c.args.members.now).past.items ++ p ∷ []) c.replace-stood.ensures.value in
    let state = g.D.Disk.state in
    let next = (c.args.marking).next in
    let done = (c.args.marking).done in
    let new = c.place_ended.new.replicas in
    let ready = ready_placed state was later net.replicas new new net.bag next done [] c.requires.ready c.requires.lawful c.requires.there c.place_ended.ensures (ran_nothing state new) is in
    let serves = serves_placed state was later net.replicas new new net.bag (c.args.members.now).past.items c.push_reserved.new.self.items next done [] c.requires.ready c.requires.serves c.place_ended.ensures (ran_nothing state new) ready is past in
    let slots = subst (λ (p : Placement). AreSlotsIn p (c.args.members.now).slots.items) (sym c.replace-stood.ensures.after) (slots_next was.place next (c.args.members.now).slots.items c.requires.nodes (c.requires.step).count may.slots) in
    change_still state c.args.members.now _ (place_ending next done) c.place_ended.ensures held may ready serves slots refl
