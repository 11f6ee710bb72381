use Rattle.std.proofs.Common.{◌*◌, ◌++◌, arith, length, refl, ap, subst, ◌∙◌, true, false}
use Rattle.m3_model.specs.Members.{IsIn}
use Rattle.std.specs.List.{flat_map}
use Rattle.cluster_members.specs.session_net.Runs.{Ran}
use Rattle.cluster_members.proofs.session_net_proofs.ReadyLemmas.{quiet_both, there_after}
use Rattle.cluster_members.proofs.session_net_proofs.RunLemmas.{ran_then}
use Rattle.node_calls.specs.Halts.{IsUnrestarted, restart_at, slots_of_node, stop_at}
use Rattle.node_calls.proofs.NodeActs.{node_is, unstarted_answer}
use Rattle.node_calls.proofs.RunLemmas.{has_room, no_room, ready_still, restarts_quiet, room_again, same_slots, stops_quiet, unrestarted_quiet}
use Rattle.cluster_members.proofs.SameMembers.{same_members, same_state}
use Rattle.node_calls.proofs.boots.restart.Goals as goal

pub returns-then-not-index-clause-restarted : goal.returns-then-not-index-clause-restarted
returns-then-not-index-clause-restarted g c = (
  node_is c.args.members.now c.args.name c.as_str.result.now c.as_slice-instances.result.now c.in-Some.node false c.index.result.now c.as_str.ensures c.as_slice-instances.ensures c.in-Some.ensures.found c.in-Some.ensures.below c.index.ensures
      c.if-not-index.true,
  refl,
  same_members c.args.members.now _ _ _ _ _ _ _,
)

pub overflow_mul-slots_of : goal.overflow_mul-slots_of
overflow_mul-slots_of g c =
    let few = c.slots_of.ensures.few in
    let long = c.as_slice-slots.ensures.len in
    let most = (c.args.members.now).few_slots in
    omega (arith, few, long, most)

pub returns-then-not-has_room-clause-restarted : goal.returns-then-not-has_room-clause-restarted
returns-then-not-has_room-clause-restarted g c = (
  node_is c.args.members.now c.args.name c.as_str.result.now c.as_slice-instances.result.now c.in-Some.node true c.index.result.now c.as_str.ensures c.as_slice-instances.ensures c.in-Some.ensures.found c.in-Some.ensures.below c.index.ensures
      c.if-not-index.false,
  record {
    room = no_room (c.args.members.now).net.replicas.events _ _ c.has_room.result (ap (λ n. 4 * n) (c.slots_of.ensures.count ∙ ap (λ xs. length (slots_of_node c.in-Some.node xs)) c.as_slice-slots.ensures.value)) c.has_room.ensures c.if-not-has_room.true;
    same = same_state c.args.members.now _ refl _ _ _ _ _ _ _ _ _ _;
  },
)

pub restart_all-requires-clause-room : goal.restart_all-requires-clause-room
restart_all-requires-clause-room g c =
    let room = has_room (c.args.members.now).net.replicas.events (4 * length (slots_of_node c.in-Some.node c.as_slice-slots.result.now)) _ c.has_room.result (ap (λ n. 4 * n) c.slots_of.ensures.count) c.has_room.ensures c.if-not-has_room.false in
    omega (arith, room)

pub stop_all-requires-clause-manned : goal.stop_all-requires-clause-manned
stop_all-requires-clause-manned g c s m =
    let h = c.in-Err.ensures.err in
    there_after g.D.Disk.state (c.args.members.now).net.replicas c.restart_all.new.replicas h.tried s h.ran (c.requires.manned s (subst (λ xs. IsIn xs s) c.as_slice-slots.ensures.value m))

pub stop_all-requires-clause-room : goal.stop_all-requires-clause-room
stop_all-requires-clause-room g c =
    let slots = slots_of_node c.in-Some.node c.as_slice-slots.result.now in
    room_again g.D.Disk.state slots c.in-Err.refused.shard c.in-Err.refused.why (c.args.members.now).net.replicas c.restart_all.new.replicas
    (has_room (c.args.members.now).net.replicas.events (4 * length slots) _ c.has_room.result (ap (λ n. 4 * n) c.slots_of.ensures.count) c.has_room.ensures c.if-not-has_room.false) c.in-Err.ensures.err

pub returns-in-Err-clause-restarted : goal.returns-in-Err-clause-restarted
returns-in-Err-clause-restarted g c =
    let h = c.in-Err.ensures.err in
    unstarted_answer g.D.Disk.state c.args.members.now _ c.args.name c.in-Err.refused.shard c.in-Err.refused.why c.answer.result c.answer.ensures (record {
      was =
          node_is c.args.members.now c.args.name c.as_str.result.now c.as_slice-instances.result.now c.in-Some.node true c.index.result.now c.as_str.ensures c.as_slice-instances.ensures c.in-Some.ensures.found c.in-Some.ensures.below
          c.index.ensures c.if-not-index.false;
      tried = h.tried;
      refused = subst (λ slots. IsUnrestarted (slots_of_node c.in-Some.node slots) c.in-Err.refused.shard c.in-Err.refused.why h.tried) c.as_slice-slots.ensures.value h.refused;
      stopped =
          ran_then g.D.Disk.state h.tried (flat_map stop_at (slots_of_node c.in-Some.node (c.args.members.now).slots.items)) (c.args.members.now).net.replicas c.restart_all.new.replicas c.stop_all.new.replicas h.ran
          (subst (λ slots. Ran g.D.Disk.state c.restart_all.new.replicas (flat_map stop_at (slots_of_node c.in-Some.node slots)) c.stop_all.new.replicas) c.as_slice-slots.ensures.value c.stop_all.ensures);
      stays = refl;
      keeps = record { state = refl; fates = refl; bag = refl; slots = refl; past = refl };
    })

pub returns-in-Err-clause-ready : goal.returns-in-Err-clause-ready
returns-in-Err-clause-ready g c =
    let h = c.in-Err.ensures.err in
    let slots = slots_of_node c.in-Some.node c.as_slice-slots.result.now in
    ready_still g.D.Disk.state (c.args.members.now).net.replicas c.stop_all.new.replicas (h.tried ++ flat_map stop_at slots)
    (ran_then g.D.Disk.state h.tried (flat_map stop_at slots) (c.args.members.now).net.replicas c.restart_all.new.replicas c.stop_all.new.replicas h.ran c.stop_all.ensures) (c.args.members.now).net.state (c.args.members.now).net.bag c.requires.ready
    (quiet_both h.tried (flat_map stop_at slots) (unrestarted_quiet slots c.in-Err.refused.shard c.in-Err.refused.why h.tried h.refused) (stops_quiet slots))

pub returns-in-Err-clause-same_slots : goal.returns-in-Err-clause-same_slots
returns-in-Err-clause-same_slots g c =
    let h = c.in-Err.ensures.err in
    let slots = slots_of_node c.in-Some.node c.as_slice-slots.result.now in
    same_slots g.D.Disk.state (c.args.members.now).net.replicas c.stop_all.new.replicas (h.tried ++ flat_map stop_at slots)
    (ran_then g.D.Disk.state h.tried (flat_map stop_at slots) (c.args.members.now).net.replicas c.restart_all.new.replicas c.stop_all.new.replicas h.ran c.stop_all.ensures)

pub returns-clause-restarted : goal.returns-clause-restarted
returns-clause-restarted g c = record {
  was =
      node_is c.args.members.now c.args.name c.as_str.result.now c.as_slice-instances.result.now c.in-Some.node true c.index.result.now c.as_str.ensures c.as_slice-instances.ensures c.in-Some.ensures.found c.in-Some.ensures.below c.index.ensures
      c.if-not-index.false;
  stopped_now = refl;
  restarted =
      subst (λ slots. Ran g.D.Disk.state (c.args.members.now).net.replicas (flat_map restart_at (slots_of_node c.in-Some.node slots)) c.restart_all.new.replicas) c.as_slice-slots.ensures.value c.in_default-restart_all.ensures.ok;
  keeps = record { state = refl; fates = refl; bag = refl; slots = refl; past = refl };
}

pub returns-clause-ready : goal.returns-clause-ready
returns-clause-ready g c =
    let slots = slots_of_node c.in-Some.node c.as_slice-slots.result.now in
    ready_still g.D.Disk.state (c.args.members.now).net.replicas c.restart_all.new.replicas (flat_map restart_at slots) c.in_default-restart_all.ensures.ok (c.args.members.now).net.state (c.args.members.now).net.bag c.requires.ready (restarts_quiet slots)

pub returns-clause-same_slots : goal.returns-clause-same_slots
returns-clause-same_slots g c =
    let slots = slots_of_node c.in-Some.node c.as_slice-slots.result.now in
    same_slots g.D.Disk.state (c.args.members.now).net.replicas c.restart_all.new.replicas (flat_map restart_at slots) c.in_default-restart_all.ensures.ok
