use Rattle.std.proofs.Common.{◌≡◌, Some, sym, ap, ◌∙◌, arith}
use Rattle.std.specs.Prelude.{is_some, IsTrue}
use Rattle.m3_outside.specs.Slots.{Out}
use Rattle.disk_slots.specs.SlotStates.{held_in, counted_in, disk_in}
use Rattle.disk_slots.proofs.SlotLemmas.{held_here, held_other, held_position, counted_here, counted_other}
use Rattle.disk_slots.proofs.slots.DiskSlots.put.Goals as goal

pub returns-clause-here : goal.returns-clause-here
returns-clause-here g c = λ _ _.
    let d = c.args.self.now in
    held_here d.slots.items c.args.slot c.in-Some.position c.put.new.self (sym c.in-Some.ensures.position) (omega (arith, c.in-Some.ensures.below, d.slots.ok.0)) ∙ ap (λ p. held_in (Some p)) c.put.ensures.here

pub returns-clause-old : goal.returns-clause-old
returns-clause-old g c = λ _ _.
    let d = c.args.self.now in
    let there = held_position d.slots.items c.args.slot c.in-Some.position c.index_mut.result.now (sym c.in-Some.ensures.position) (omega (arith, c.in-Some.ensures.below, d.slots.ok.0)) c.index_mut.ensures.value in
    c.put.ensures.old ∙ ap disk_in (sym there)

pub returns-clause-back : goal.returns-clause-back
returns-clause-back g c = λ out.
    let d = c.args.self.now in
    let there = held_position d.slots.items c.args.slot c.in-Some.position c.index.result.now (sym c.in-Some.ensures.position) (omega (arith, c.in-Some.ensures.below, d.slots.ok.0)) c.index.ensures in
    let is_out : held_in (Some c.index.result.now) ≡ Out = sym there ∙ out (ap is_some (sym c.in-Some.ensures.position)) in
    let lent : IsTrue c.is_lent.result = c.is_lent.ensures.1 is_out in
    absurd (cc)

pub returns-clause-others : goal.returns-clause-others
returns-clause-others g c = held_other c.args.self.now.slots.items c.args.slot c.in-Some.position c.put.new.self (sym c.in-Some.ensures.position)

pub returns-clause-counted : goal.returns-clause-counted
returns-clause-counted g c = λ _ _.
    let d = c.args.self.now in
    counted_here g.D.Disk.state d.slots.items c.args.slot c.in-Some.position c.put.new.self (sym c.in-Some.ensures.position) (omega (arith, c.in-Some.ensures.below, d.slots.ok.0)) ∙ ap (λ p. counted_in g.D.Disk.state (Some p)) c.put.ensures.here

pub returns-clause-counted_others : goal.returns-clause-counted_others
returns-clause-counted_others g c = counted_other g.D.Disk.state c.args.self.now.slots.items c.args.slot c.in-Some.position c.put.new.self (sym c.in-Some.ensures.position)
