use Rattle.std.proofs.Common.{◌∙◌, sym, arith}
use Rattle.m3_outside.specs.DiskState.{IsEmpty}
use Rattle.disk_slots.specs.SlotStates.{held_at}
use Rattle.disk_slots.proofs.LendLemmas.{fresh_given}
use Rattle.disk_slots.proofs.SlotLemmas.{held_here, held_other, counted_same, unused_at}
use Rattle.disk_slots.proofs.slots.DiskSlots.lend_fresh.Goals as goal

pub returns-clause-disk : goal.returns-clause-disk
returns-clause-disk g c = fresh_given (λ m. IsEmpty (g.D.Disk.state m)) (held_at c.args.self.now.slots.items c.args.slot) c.args.disk c.requires.unused c.requires.empty

pub returns-clause-disk_faults : goal.returns-clause-disk_faults
returns-clause-disk_faults g c = c.requires.no_faults ∙ sym (unused_at g.D.Disk.state c.args.self.now.slots.items c.args.slot c.requires.unused)

pub returns-clause-out : goal.returns-clause-out
returns-clause-out g c =
    let d = c.args.self.now in
    held_here d.slots.items c.args.slot c.in-Some.position c.lend.new.self (sym c.in-Some.ensures.position) (omega (arith, c.in-Some.ensures.below, d.slots.ok.0)) ∙ c.lend.ensures.out

pub returns-clause-others : goal.returns-clause-others
returns-clause-others g c = held_other c.args.self.now.slots.items c.args.slot c.in-Some.position c.lend.new.self (sym c.in-Some.ensures.position)

pub returns-clause-counted : goal.returns-clause-counted
returns-clause-counted g c =
    let d = c.args.self.now in
    counted_same g.D.Disk.state d.slots.items c.args.slot c.in-Some.position c.index_mut.result.now c.lend.new.self (sym c.in-Some.ensures.position) (omega (arith, c.in-Some.ensures.below, d.slots.ok.0)) c.index_mut.ensures.value c.lend.ensures.counted
