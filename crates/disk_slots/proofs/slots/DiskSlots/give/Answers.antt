use Rattle.std.proofs.Common.{◌≡◌, ap, ◌∙◌, sym, arith, Some}
use Rattle.disk_slots.specs.SlotStates.{held_in, counted_in, counted_at}
use Rattle.disk_slots.proofs.SlotLemmas.{held_here, held_other, counted_here, counted_other, counted_position}
use Rattle.disk_slots.proofs.slots.DiskSlots.give.Goals as goal

pub returns-clause-here : goal.returns-clause-here
returns-clause-here g c =
    let d = c.args.self.now in
    held_here d.slots.items c.args.slot c.in-Some.position c.put.new.self (sym c.in-Some.ensures.position) (omega (arith, c.in-Some.ensures.below, d.slots.ok.0)) ∙ ap (λ p. held_in (Some p)) c.put.ensures.here

pub returns-clause-others : goal.returns-clause-others
returns-clause-others g c = held_other c.args.self.now.slots.items c.args.slot c.in-Some.position c.put.new.self (sym c.in-Some.ensures.position)

pub returns-clause-counted : goal.returns-clause-counted
returns-clause-counted g c =
    let d = c.args.self.now in
    counted_here g.D.Disk.state d.slots.items c.args.slot c.in-Some.position c.put.new.self (sym c.in-Some.ensures.position) (omega (arith, c.in-Some.ensures.below, d.slots.ok.0)) ∙ ap (λ p. counted_in g.D.Disk.state (Some p)) c.put.ensures.here

pub returns-clause-counted_others : goal.returns-clause-counted_others
returns-clause-counted_others g c = counted_other g.D.Disk.state c.args.self.now.slots.items c.args.slot c.in-Some.position c.put.new.self (sym c.in-Some.ensures.position)

pub returns-clause-counts : goal.returns-clause-counts
returns-clause-counts g c =
    let d = c.args.self.now in
    let before : counted_at g.D.Disk.state d.slots.items c.args.slot ≡ counted_in g.D.Disk.state (Some c.index.result.now) = counted_position g.D.Disk.state d.slots.items c.args.slot c.in-Some.position c.index.result.now (sym c.in-Some.ensures.position) (omega (arith, c.in-Some.ensures.below, d.slots.ok.0)) c.index.ensures in
    omega (arith, before, c.counted-counted.ensures, c.faults.ensures, c.saturating_sub.ensures, c.saturating_add-self.ensures)
