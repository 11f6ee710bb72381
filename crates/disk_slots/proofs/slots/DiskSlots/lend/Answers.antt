use Rattle.std.proofs.Common.{◌∙◌, sym, ap, arith}
use Rattle.m3_outside.specs.DiskState.{IsEmpty}
use Rattle.disk_slots.specs.SlotStates.{disk_in, held_at}
use Rattle.disk_slots.proofs.LendLemmas.{held_given}
use Rattle.disk_slots.proofs.SlotLemmas.{held_here, held_other, held_position, counted_same, lent_counts}
use Rattle.disk_slots.proofs.slots.DiskSlots.lend.Goals as goal

pub returns-clause-disk : goal.returns-clause-disk
returns-clause-disk g c =
    let d = c.args.self.now in
    held_given (λ m. IsEmpty (g.D.Disk.state m)) (held_at d.slots.items c.args.slot) c.lend.result c.in-Some-lend.disk (c.lend.ensures.disk ∙ ap disk_in (sym (held_position d.slots.items c.args.slot c.in-Some.position c.index_mut.result.now (sym c.in-Some.ensures.position) (omega (arith, c.in-Some.ensures.below, d.slots.ok.0)) c.index_mut.ensures.value))) c.in-Some-lend.is

pub returns-clause-disk_faults : goal.returns-clause-disk_faults
returns-clause-disk_faults g c =
    let d = c.args.self.now in
    lent_counts g.D.Disk.state d.slots.items c.args.slot c.in-Some.position c.index_mut.result.now c.lend.result c.in-Some-lend.disk (sym c.in-Some.ensures.position) (omega (arith, c.in-Some.ensures.below, d.slots.ok.0)) c.index_mut.ensures.value c.lend.ensures.disk c.in-Some-lend.is

pub returns-clause-out : goal.returns-clause-out
returns-clause-out g c =
    let d = c.args.self.now in
    held_here d.slots.items c.args.slot c.in-Some.position c.lend.new.self (sym c.in-Some.ensures.position) (omega (arith, c.in-Some.ensures.below, d.slots.ok.0)) ∙ c.lend.ensures.out

pub returns-clause-others : goal.returns-clause-others
returns-clause-others g c = held_other c.args.self.now.slots.items c.args.slot c.in-Some.position c.lend.new.self (sym c.in-Some.ensures.position)

pub returns-clause-counted : goal.returns-clause-counted
returns-clause-counted g c =
    let d = c.args.self.now in
    counted_same g.D.Disk.state d.slots.items c.args.slot c.in-Some.position c.index_mut.result.now c.lend.new.self (sym c.in-Some.ensures.position) (omega (arith, c.in-Some.ensures.below, d.slots.ok.0)) c.index_mut.ensures.value c.lend.ensures.counted
