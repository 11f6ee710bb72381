use Rattle.std.proofs.Common.{[], ◌∷◌, ◌++◌, ap, refl, subst, ◌∙◌}
use Rattle.std.specs.List.{flat_map}
use Rattle.m3_model.specs.declared.placement.Placement.{Placement}
use Rattle.m3_model.specs.declared.rules.MetaState.{MetaState}
use Rattle.node_calls.specs.session_net.Runs.{Ran}
use Rattle.node_calls.proofs.session_net_proofs.ReadyLemmas.{there_after}
use Rattle.node_calls.proofs.session_net_proofs.RunLemmas.{ran_then}
use Rattle.cluster_placements.specs.Steps.{end_at, place_events, step_events}
use Rattle.cluster_placements.proofs.ChangeLemmas.{left_there, room_first}
use Rattle.cluster_placements.proofs.PlacedLemmas.{next_place, ready_placed, serves_placed}
use Rattle.cluster_placements.proofs.change.make.Goals as goal

pub place-requires-clause-next : goal.place-requires-clause-next
place-requires-clause-next g c = let net = (c.args.members.now).net in next_place net.state net.replicas net.bag c.args.change.next c.requires.ready c.requires.step

pub place-requires-clause-room : goal.place-requires-clause-room
place-requires-clause-room g c = room_first ((c.args.members.now).net).replicas c.args.change.left.items c.requires.room

pub end_all-requires-clause-there : goal.end_all-requires-clause-there
end_all-requires-clause-there g c s i =
    let net = (c.args.members.now).net in
    there_after g.D.Disk.state net.replicas c.place.new.replicas (place_events c.args.change.next) s c.place.ensures (left_there net.state net.replicas net.bag c.args.change.next c.as_slice.result.now c.requires.ready (c.as_slice.ensures.value ∙ c.requires.left_are) s i)

pub returns : goal.returns
returns g c =
    let net = (c.args.members.now).net in
    let was : MetaState = net.state in
    let later : MetaState = record was { place = c.replace-stood.new.dest } in
    let is = ap (λ (p : Placement). record was { place = p }) c.replace-stood.ensures.after in
    let past = c.push_reserved.ensures.items ∙ ap (λ (p : Placement). (c.args.members.now).past.items ++ p ∷ []) c.replace-stood.ensures.value in
    let ready = ready_placed g.D.Disk.state was later net.replicas c.place.new.replicas c.end_all.new.replicas net.bag c.args.change.next [] c.as_slice.result.now c.requires.ready c.requires.lawful c.requires.there c.place.ensures c.end_all.ensures is in
    record {
      answer_is = refl;
      ready = ready;
      serves = serves_placed g.D.Disk.state was later net.replicas c.place.new.replicas c.end_all.new.replicas net.bag (c.args.members.now).past.items c.push_reserved.new.self.items c.args.change.next [] c.as_slice.result.now c.requires.ready c.requires.serves c.place.ensures c.end_all.ensures ready is past;
      past = past;
      ran = subst (λ left. Ran g.D.Disk.state net.replicas (step_events c.args.change.next left) c.end_all.new.replicas) c.as_slice.ensures.value
          (ran_then g.D.Disk.state (place_events c.args.change.next) (flat_map end_at c.as_slice.result.now) net.replicas c.place.new.replicas c.end_all.new.replicas c.place.ensures c.end_all.ensures);
      state_is = is;
      fates = refl;
      bag = refl;
      slots = ap (λ v. v.items) c.replace.ensures.after;
      stopped = ap (λ v. v.items) c.replace-2.ensures.after;
    }
