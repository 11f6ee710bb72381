use Rattle.std.proofs.Common.{◌≡◌, sym, ap, ◌∙◌, true}
use Rattle.std.specs.FinMap as finite
use Rattle.std.specs.FinMap.{is_sorted, from_sorted}
use Rattle.replica_calls.proofs.MapLemmas.{sorted_of, get_of, removed}
use Rattle.replica_calls.specs.Slots.{slot_cmp}
use Rattle.replica_calls.proofs.SlotLemmas.{slot_cmp_total, slot_cmp-IsAntisymmetric}
use Rattle.replica_calls.proofs.TrackLemmas.{tracked_remove}
use Rattle.replica_calls.proofs.replicas.Replicas.take.Given.{Over}
use Rattle.replica_calls.proofs.replicas.Replicas.take.Goals as goal

sorted : (g : Over) (c : goal.After-remove g) → is_sorted slot_cmp c.remove.new.self.entries ≡ true
sorted g c = sorted_of slot_cmp c.remove.new.self.entries c.remove.ensures.ordered

fewer : (g : Over) (c : goal.After-remove g) → from_sorted {R = slot_cmp} c.remove.new.self.entries ≡ finite.remove (from_sorted {R = slot_cmp} c.self.inside.map.entries) c.args.slot
fewer g c = removed slot_cmp slot_cmp_total slot_cmp-IsAntisymmetric c.self.inside.map.entries c.remove.new.self.entries c.args.slot c.self.invariant.sorted (sorted g c) c.remove.ensures.updates.0

pub invariant_of-self : goal.invariant_of-self
invariant_of-self g c = tracked_remove g.D.Disk.state c.self.inside.map c.remove.new.self c.args.slot c.self.inside.trail c.self.invariant (sorted g c) (fewer g c)

pub returns-clause-taken : goal.returns-clause-taken
returns-clause-taken g c = rw (← c.self.view_is) (c.remove.ensures.value ∙ sym (get_of slot_cmp c.self.inside.map.entries c.args.slot c.self.invariant.sorted))

pub returns-clause-left : goal.returns-clause-left
returns-clause-left g c = rw (← c.self.view_is) (ap (λ members. record { members = members; events = c.self.inside.trail }) (fewer g c))
