use Rattle.std.proofs.Common.{refl, arith, sym, subst}
use Rattle.disk_content.specs.Images.{IsSound}
use Rattle.disk_content.specs.Contents.{IsInBoth}
use Rattle.mem_disk.proofs.PastLemmas.{same_itself, counts_as}
use Rattle.disk_content.proofs.SyncLemmas.{in_both}
use Rattle.disk_content.proofs.NameLemmas.{sound_gone}
use Rattle.mem_disk.proofs.DiskLemmas.{changes_not, removed}
use Rattle.mem_disk.proofs.disk.MemDiskDisk.remove.Goals as goal

pub returns-then-next_fails-clause-disk : goal.returns-then-next_fails-clause-disk
returns-then-next_fails-clause-disk c =
    let d = c.args.self.now in
    record {
      changes = changes_not d.now d.now d.past.items d.past.items d.schedule.faults c.next_fails.new.self.faults refl (same_itself d.now) refl (λ h. cc) (counts_as (λ h. c.if-next_fails.true) c.next_fails.ensures.cause);
      spare = omega arith;
    }

pub invariant_of-self-2-clause-sound : goal.invariant_of-self-2-clause-sound
invariant_of-self-2-clause-sound c =
    let d = c.args.self.now in
    let both : IsInBoth c.args.name d.now = in_both d.now c.args.name d.sound (c.requires.present refl) in
    subst IsSound (sym c.remove.ensures) (sound_gone d.now c.args.name d.sound both.synced both.synced_is)

pub returns-clause-disk : goal.returns-clause-disk
returns-clause-disk c =
    let d = c.args.self.now in
    removed d.now c.remove.new.self d.past.items c.push_reserved.new.self.items c.of.result d.schedule.faults c.next_fails.new.self.faults c.args.name _ d.sound (c.requires.present refl) c.requires.room c.of.ensures c.push_reserved.ensures.items c.remove.ensures
    (counts_as (λ h. absurd h) c.next_fails.ensures.cause)
