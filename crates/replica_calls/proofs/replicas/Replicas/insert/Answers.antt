use Rattle.std.proofs.Common.{◌≡◌, ap, ◌∙◌, true}
use Rattle.std.specs.FinMap as finite
use Rattle.std.specs.FinMap.{is_sorted, from_sorted}
use Rattle.replica_calls.proofs.MapLemmas.{sorted_of, inserted}
use Rattle.replica_calls.specs.Slots.{slot_cmp}
use Rattle.replica_calls.proofs.SlotLemmas.{slot_cmp_total, slot_cmp-IsAntisymmetric}
use Rattle.replica_calls.proofs.TrackLemmas.{first_is, is_first_member, tracked_insert, tracked_same}
use Rattle.replica_calls.proofs.replicas.Replicas.insert.Goals as goal

pub invariant_of-self : goal.invariant_of-self
invariant_of-self g c =
    let sorted : is_sorted slot_cmp c.insert.new.self.entries ≡ true = sorted_of slot_cmp c.insert.new.self.entries c.insert.ensures.ordered in
    tracked_insert g.D.Disk.state c.self.inside.map c.insert.new.self c.args.slot (record { machine = c.new.result; first = c.of-first.result }) c.self.inside.trail c.self.invariant sorted
    (inserted slot_cmp slot_cmp_total slot_cmp-IsAntisymmetric c.self.inside.map.entries c.insert.new.self.entries c.args.slot (record { machine = c.new.result; first = c.of-first.result }) c.self.invariant.sorted sorted c.in-Ok.ensures.updates.0)
    (is_first_member g.D.Disk.state c.args.slot c.self.inside.trail c.args.disk c.new.result c.of-first.result c.new.ensures.fresh c.of-first.ensures (ap (λ t. t.events) c.self.view_is) c.requires)

pub returns-in-Ok-clause-ok : goal.returns-in-Ok-clause-ok
returns-in-Ok-clause-ok g c =
    let sorted : is_sorted slot_cmp c.insert.new.self.entries ≡ true = sorted_of slot_cmp c.insert.new.self.entries c.insert.ensures.ordered in
    let grew = inserted slot_cmp slot_cmp_total slot_cmp-IsAntisymmetric c.self.inside.map.entries c.insert.new.self.entries c.args.slot (record { machine = c.new.result; first = c.of-first.result }) c.self.invariant.sorted sorted c.in-Ok.ensures.updates.0 in
    rw (← c.self.view_is)
    (ap (λ members. record { members = members; events = c.self.inside.trail }) (grew ∙ ap (λ w. finite.insert (from_sorted {R = slot_cmp} c.self.inside.map.entries) c.args.slot w) (first_is c.args.disk c.new.result c.of-first.result c.new.ensures.first c.of-first.ensures)))

pub invariant_of-self-2 : goal.invariant_of-self-2
invariant_of-self-2 g c = tracked_same g.D.Disk.state c.self.inside.map c.insert.new.self c.self.inside.trail c.in-Err.ensures.err c.self.invariant
