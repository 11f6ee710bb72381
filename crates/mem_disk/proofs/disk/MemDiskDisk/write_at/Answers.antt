use Rattle.std.proofs.Common.{refl, sym, subst}
use Rattle.disk_content.specs.Images.{IsSound}
use Rattle.mem_disk.proofs.PastLemmas.{counts_as}
use Rattle.disk_content.proofs.WriteLemmas.{sound_failed_write, sound_write}
use Rattle.mem_disk.proofs.DiskLemmas.{wrote, failed_write}
use Rattle.mem_disk.proofs.disk.MemDiskDisk.write_at.Goals as goal

pub invariant_of-self-clause-sound : goal.invariant_of-self-clause-sound
invariant_of-self-clause-sound c =
    let d = c.args.self.now in
    subst IsSound (sym c.fail_write.ensures) (sound_failed_write d.now c.args.name c.args.at c.args.bytes.now d.sound (c.requires.inside refl))

pub returns-then-fails-clause-disk : goal.returns-then-fails-clause-disk
returns-then-fails-clause-disk c =
    let d = c.args.self.now in
    failed_write d.now c.fail_write.new.self d.past.items c.push_reserved.new.self.items c.of.result d.schedule.faults c.next_fails-fails.new.self.faults c.args.name c.args.at c.args.bytes.now _ d.sound (c.requires.inside refl) c.requires.room
    c.of.ensures c.push_reserved.ensures.items c.fail_write.ensures (counts_as (λ h. c.if-fails.true) c.next_fails-fails.ensures.cause)

pub invariant_of-self-2-clause-sound : goal.invariant_of-self-2-clause-sound
invariant_of-self-2-clause-sound c =
    let d = c.args.self.now in
    subst IsSound (sym c.write.ensures) (sound_write d.now c.args.name c.args.at c.args.bytes.now d.sound (c.requires.inside refl))

pub returns-clause-disk : goal.returns-clause-disk
returns-clause-disk c =
    let d = c.args.self.now in
    wrote d.now c.write.new.self d.past.items c.push_reserved.new.self.items c.of.result d.schedule.faults c.next_fails-fails.new.self.faults c.args.name c.args.at c.args.bytes.now _ d.sound (c.requires.inside refl) c.requires.room
    c.of.ensures c.push_reserved.ensures.items c.write.ensures (counts_as (λ h. absurd h) c.next_fails-fails.ensures.cause)
