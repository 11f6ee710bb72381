use Rattle.std.proofs.Common.{◌≡◌, ◌*◌, length, map, refl, sym, ap, ◌∙◌, subst, arith}
use Rattle.std.specs.List.{flat_map}
use Rattle.std.proofs.lemmas.List.{length-map}
use Rattle.m3_model.specs.Members.{IsIn}
use Rattle.node_calls.proofs.RunLemmas.{has_room, no_room, ready_still, same_slots}
use Rattle.node_calls.proofs.cluster_members_proofs.SameMembers.{same_state}
use Rattle.node_calls.proofs.session_net_proofs.ReadyLemmas.{clock_there}
use Rattle.cluster_upkeep.specs.Rows.{AreRowsBelow, slot_in}
use Rattle.cluster_upkeep.specs.Sweeps.{asked_at, call_by}
use Rattle.cluster_upkeep.proofs.RowLemmas.{all_members, rows_few}
use Rattle.cluster_upkeep.proofs.SweepLemmas.{asked_quiet, entries_few, entries_members, row_member, slots_few, swept_answer}
use Rattle.cluster_upkeep.proofs.sweeps.sweep.Goals as goal

pub returns-in_default-clause-swept : goal.returns-in_default-clause-swept
returns-in_default-clause-swept g c = same_state c.args.members.now _ refl _ _ _ _ _ _ _ _ _ _

pub overflow_mul-len : goal.overflow_mul-len
overflow_mul-len g c =
    let place = (c.args.members.now).net.state.place in
    let few = rows_few place c.requires.ready.lawful c.in-Ok.rows.items c.in-Ok.ensures in
    let long = c.len.ensures in
    omega (arith, few, long)

pub returns-then-not-has_room-clause-swept : goal.returns-then-not-has_room-clause-swept
returns-then-not-has_room-clause-swept g c =
    let place = (c.args.members.now).net.state.place in
    let rows = c.in-Ok.rows.items in
    record {
      slots = map slot_in rows;
      members = all_members place c.requires.ready.lawful rows c.in-Ok.ensures;
      few = slots_few place c.requires.ready.lawful rows c.in-Ok.ensures;
      room = no_room (c.args.members.now).net.replicas.events _ _ c.has_room.result (let long = c.len.ensures in let count = (c.in-Ok.rows).ok.0 in let same = length-map rows slot_in in omega (arith, long, count, same)) c.has_room.ensures c.if-not-has_room.true;
      same = same_state c.args.members.now _ refl _ _ _ _ _ _ _ _ _ _;
    }

pub returns-in_default-with_room-clause-swept : goal.returns-in_default-with_room-clause-swept
returns-in_default-with_room-clause-swept g c = same_state c.args.members.now _ refl _ _ _ _ _ _ _ _ _ _

pub run_all-requires-clause-clock : goal.run_all-requires-clause-clock
run_all-requires-clause-clock g c = clock_there (c.args.members.now).net.replicas.events (c.args.members.now).net.state.rules c.requires.ready.clock

pub run_all-requires-clause-sizes : goal.run_all-requires-clause-sizes
run_all-requires-clause-sizes g c = (c.args.members.now).sizes

pub run_all-requires-clause-there : goal.run_all-requires-clause-there
run_all-requires-clause-there g c r m =
    let place = (c.args.members.now).net.state.place in
    c.requires.ready.there r.slot.node r.slot.shard
    (row_member place c.requires.ready.lawful c.in-Ok.rows.items c.in-Ok.ensures r (subst (λ rows. IsIn rows r) c.as_slice.ensures.value m))

pub run_all-requires-clause-room : goal.run_all-requires-clause-room
run_all-requires-clause-room g c =
    has_room (c.args.members.now).net.replicas.events _ _ c.has_room.result (ap (λ n. 2 * n) (c.len.ensures ∙ sym c.as_slice.ensures.len)) c.has_room.ensures c.if-not-has_room.false

pub returns-clause-swept : goal.returns-clause-swept
returns-clause-swept g c =
    let place = (c.args.members.now).net.state.place in
    let h = c.run_all.ensures in
    let rows = c.in-Ok.rows.items in
    swept_answer g.D.Disk.state (call_by c.args.job (c.args.members.now).net.state.rules) c.args.members.now _ _ _ c.answer.result c.answer.ensures (record {
      entries = h.entries;
      members = entries_members place c.requires.ready.lawful rows c.in-Ok.ensures h.entries (h.of_rows ∙ ap (map slot_in) c.as_slice.ensures.value);
      few = entries_few place c.requires.ready.lawful rows c.in-Ok.ensures h.entries (h.of_rows ∙ ap (map slot_in) c.as_slice.ensures.value);
      ran = h.ran;
      files = h.files;
      done_are = h.done_are;
      failed_are = h.failed_are;
      keeps = record { keeps = record { state = refl; fates = refl; bag = refl; slots = refl; past = refl }; stopped = refl };
    })

pub returns-clause-ready : goal.returns-clause-ready
returns-clause-ready g c =
    let h = c.run_all.ensures in
    let asked = call_by c.args.job (c.args.members.now).net.state.rules in
    ready_still g.D.Disk.state (c.args.members.now).net.replicas c.run_all.new.replicas (flat_map (asked_at asked) h.entries) h.ran (c.args.members.now).net.state (c.args.members.now).net.bag c.requires.ready (asked_quiet asked h.entries)

pub returns-clause-same_slots : goal.returns-clause-same_slots
returns-clause-same_slots g c =
    let h = c.run_all.ensures in
    let asked = call_by c.args.job (c.args.members.now).net.state.rules in
    same_slots g.D.Disk.state (c.args.members.now).net.replicas c.run_all.new.replicas (flat_map (asked_at asked) h.entries) h.ran
