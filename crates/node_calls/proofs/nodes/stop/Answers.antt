use Rattle.std.proofs.Common.{◌*◌, arith, length, refl, ap, subst, ◌∙◌, true, false}
use Rattle.std.specs.List.{flat_map}
use Rattle.cluster_members.specs.session_net.Runs.{Ran}
use Rattle.node_calls.specs.Halts.{slots_of_node, stop_at}
use Rattle.node_calls.proofs.NodeActs.{node_is}
use Rattle.node_calls.proofs.RunLemmas.{no_room, ready_still, stops_quiet}
use Rattle.cluster_members.proofs.SameMembers.{same_members, same_state}
use Rattle.node_calls.proofs.nodes.stop.Goals as goal

pub returns-then-index-clause-stopped : goal.returns-then-index-clause-stopped
returns-then-index-clause-stopped g c = (
  node_is c.args.members.now c.args.name c.as_str.result.now c.as_slice-instances.result.now c.in-Some.node true c.index.result.now c.as_str.ensures c.as_slice-instances.ensures c.in-Some.ensures.found c.in-Some.ensures.below c.index.ensures
      c.if-index.true,
  refl,
  same_members c.args.members.now _ _ _ _ _ _ _,
)

pub overflow_mul-slots_of : goal.overflow_mul-slots_of
overflow_mul-slots_of g c =
    let few = c.slots_of.ensures.few in
    let long = c.as_slice-slots.ensures.len in
    let most = (c.args.members.now).few_slots in
    omega (arith, few, long, most)

pub returns-then-not-has_room-clause-stopped : goal.returns-then-not-has_room-clause-stopped
returns-then-not-has_room-clause-stopped g c = (
  node_is c.args.members.now c.args.name c.as_str.result.now c.as_slice-instances.result.now c.in-Some.node false c.index.result.now c.as_str.ensures c.as_slice-instances.ensures c.in-Some.ensures.found c.in-Some.ensures.below c.index.ensures
      c.if-index.false,
  record {
    room = no_room (c.args.members.now).net.replicas.events _ _ c.has_room.result (ap (λ n. 2 * n) (c.slots_of.ensures.count ∙ ap (λ xs. length (slots_of_node c.in-Some.node xs)) c.as_slice-slots.ensures.value)) c.has_room.ensures c.if-not-has_room.true;
    same = same_state c.args.members.now _ refl _ _ _ _ _ _ _ _ _ _;
  },
)

pub returns-clause-stopped : goal.returns-clause-stopped
returns-clause-stopped g c = record {
  ran =
      node_is c.args.members.now c.args.name c.as_str.result.now c.as_slice-instances.result.now c.in-Some.node false c.index.result.now c.as_str.ensures c.as_slice-instances.ensures c.in-Some.ensures.found c.in-Some.ensures.below c.index.ensures
      c.if-index.false;
  stopped_now = refl;
  stopped =
      subst (λ slots. Ran g.D.Disk.state (c.args.members.now).net.replicas (flat_map stop_at (slots_of_node c.in-Some.node slots)) c.stop_all.new.replicas) c.as_slice-slots.ensures.value c.stop_all.ensures;
  keeps = record { state = refl; fates = refl; bag = refl; slots = refl; past = refl };
}

pub returns-clause-ready : goal.returns-clause-ready
returns-clause-ready g c =
    ready_still g.D.Disk.state (c.args.members.now).net.replicas c.stop_all.new.replicas (flat_map stop_at (slots_of_node c.in-Some.node c.as_slice-slots.result.now)) c.stop_all.ensures (c.args.members.now).net.state (c.args.members.now).net.bag c.requires.ready
    (stops_quiet (slots_of_node c.in-Some.node c.as_slice-slots.result.now))
