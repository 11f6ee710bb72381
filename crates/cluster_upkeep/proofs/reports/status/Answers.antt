use Rattle.std.proofs.Common.{◌≡◌, ◌*◌, ◌+◌, length, map, refl, sym, ap, ◌∙◌, subst, arith}
use Rattle.std.specs.List.{flat_map}
use Rattle.std.proofs.lemmas.List.{length-map}
use Rattle.m3_model.specs.Members.{IsIn}
use Rattle.node_calls.proofs.RunLemmas.{has_room, no_room, ready_still, same_slots}
use Rattle.node_calls.proofs.cluster_members_proofs.SameMembers.{same_state}
use Rattle.cluster_upkeep.specs.Rows.{AreRowsBelow, slot_in}
use Rattle.cluster_upkeep.specs.Status.{told_at}
use Rattle.cluster_upkeep.proofs.RowLemmas.{all_members, rows_few}
use Rattle.cluster_upkeep.proofs.SweepLemmas.{lines_few, lines_members, lines_states, row_member, slots_few, told_answer, told_quiet}
use Rattle.cluster_upkeep.proofs.reports.status.Goals as goal

pub returns-in_default-clause-told : goal.returns-in_default-clause-told
returns-in_default-clause-told g c = same_state c.args.members.now _ refl _ _ _ _ _ _ _ _ _ _

pub returns-then-not-has_room-clause-told : goal.returns-then-not-has_room-clause-told
returns-then-not-has_room-clause-told g c =
    let place = (c.args.members.now).net.state.place in
    let rows = c.in-Ok.rows.items in
    record {
      slots = map slot_in rows;
      members = all_members place c.requires.ready.lawful rows c.in-Ok.ensures;
      few = slots_few place c.requires.ready.lawful rows c.in-Ok.ensures;
      room = no_room (c.args.members.now).net.replicas.events _ _ c.has_room.result (let long = c.len.ensures in let count = (c.in-Ok.rows).ok.0 in let same = length-map rows slot_in in omega (arith, long, count, same)) c.has_room.ensures c.if-not-has_room.true;
      same = same_state c.args.members.now _ refl _ _ _ _ _ _ _ _ _ _;
    }

pub returns-in_default-with_capacity-clause-told : goal.returns-in_default-with_capacity-clause-told
returns-in_default-with_capacity-clause-told g c = same_state c.args.members.now _ refl _ _ _ _ _ _ _ _ _ _

pub report_all-requires-clause-there : goal.report_all-requires-clause-there
report_all-requires-clause-there g c r m =
    let place = (c.args.members.now).net.state.place in
    c.requires.ready.there r.slot.node r.slot.shard
    (row_member place c.requires.ready.lawful c.in-Ok.rows.items c.in-Ok.ensures r (subst (λ rows. IsIn rows r) c.as_slice.ensures.value m))

pub report_all-requires-clause-room : goal.report_all-requires-clause-room
report_all-requires-clause-room g c =
    has_room (c.args.members.now).net.replicas.events _ _ c.has_room.result (c.len.ensures ∙ sym c.as_slice.ensures.len) c.has_room.ensures c.if-not-has_room.false

pub returns-clause-told : goal.returns-clause-told
returns-clause-told g c =
    let place = (c.args.members.now).net.state.place in
    let h = c.report_all.ensures in
    let rows = c.in-Ok.rows.items in
    let lines = c.report_all.new.lines.items in
    let same = h.of_rows ∙ c.as_slice.ensures.value in
    told_answer g.D.Disk.state c.args.members.now _ lines _ _ c.from_vec.result c.from_vec.ensures (record {
      now_is = refl;
      version_is = refl;
      members = lines_members place c.requires.ready.lawful rows c.in-Ok.ensures lines same;
      few = lines_few place c.requires.ready.lawful rows c.in-Ok.ensures lines same;
      states = lines_states place c.requires.ready.lawful rows c.in-Ok.ensures lines same;
      ran = h.ran;
      keeps = record { keeps = record { state = refl; fates = refl; bag = refl; slots = refl; past = refl }; stopped = refl };
    })

pub returns-clause-ready : goal.returns-clause-ready
returns-clause-ready g c =
    let h = c.report_all.ensures in
    let lines = c.report_all.new.lines.items in
    ready_still g.D.Disk.state (c.args.members.now).net.replicas c.report_all.new.replicas (flat_map told_at lines) h.ran (c.args.members.now).net.state (c.args.members.now).net.bag c.requires.ready (told_quiet lines)

pub returns-clause-same_slots : goal.returns-clause-same_slots
returns-clause-same_slots g c =
    let h = c.report_all.ensures in
    same_slots g.D.Disk.state (c.args.members.now).net.replicas c.report_all.new.replicas (flat_map told_at c.report_all.new.lines.items) h.ran
