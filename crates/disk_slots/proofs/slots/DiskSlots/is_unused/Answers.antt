use Rattle.std.proofs.Common.{◌∙◌, sym, arith}
use Rattle.disk_slots.proofs.SlotLemmas.{held_position, unused_at}
use Rattle.disk_slots.proofs.slots.DiskSlots.is_unused.Goals as goal

pub returns-in-Some-clause-unused : goal.returns-in-Some-clause-unused
returns-in-Some-clause-unused g c =
    let d = c.args.self.now in
    let there = held_position d.slots.items c.args.slot c.in-Some.position c.index.result.now (sym c.in-Some.ensures.position) (omega (arith, c.in-Some.ensures.below, d.slots.ok.0)) c.index.ensures in
    (λ is. there ∙ c.is_unused.ensures.0 is, λ unused. c.is_unused.ensures.1 (sym there ∙ unused))

pub returns-in-Some-clause-counted : goal.returns-in-Some-clause-counted
returns-in-Some-clause-counted g c = λ is.
    let d = c.args.self.now in
    let there = held_position d.slots.items c.args.slot c.in-Some.position c.index.result.now (sym c.in-Some.ensures.position) (omega (arith, c.in-Some.ensures.below, d.slots.ok.0)) c.index.ensures in
    unused_at g.D.Disk.state d.slots.items c.args.slot (there ∙ c.is_unused.ensures.0 is)
