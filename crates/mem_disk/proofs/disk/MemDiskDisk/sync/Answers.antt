use Rattle.std.proofs.Common.{refl, sym, subst}
use Rattle.disk_content.specs.Images.{IsSound}
use Rattle.mem_disk.proofs.PastLemmas.{counts_as}
use Rattle.disk_content.proofs.SyncLemmas.{in_both, sound_sync}
use Rattle.mem_disk.proofs.DiskLemmas.{not_synced, synced}
use Rattle.mem_disk.proofs.disk.MemDiskDisk.sync.Goals as goal

pub returns-then-next_fails-clause-disk : goal.returns-then-next_fails-clause-disk
returns-then-next_fails-clause-disk c = not_synced _ c.args.self.now.now c.args.self.now.past.items _ _ c.args.name (counts_as (λ h. c.if-next_fails.true) c.next_fails.ensures.cause)

pub invariant_of-self-2-clause-sound : goal.invariant_of-self-2-clause-sound
invariant_of-self-2-clause-sound c = subst IsSound (sym c.sync.ensures) (sound_sync c.args.self.now.now c.args.name c.args.self.now.sound (in_both c.args.self.now.now c.args.name c.args.self.now.sound (c.requires.present refl)))

pub returns-clause-disk : goal.returns-clause-disk
returns-clause-disk c =
    let d = c.args.self.now in
    synced d.now c.sync.new.self d.past.items c.push_reserved.new.self.items c.of.result d.schedule.faults c.next_fails.new.self.faults c.args.name _ d.sound (c.requires.present refl) c.requires.room c.of.ensures c.push_reserved.ensures.items c.sync.ensures
    (counts_as (λ h. absurd h) c.next_fails.ensures.cause)
