use Rattle.std.proofs.Common.{◌++◌, ◌∷◌, [], refl, arith, sym, ap, subst, ◌∙◌}
use Rattle.disk_content.specs.Contents.{Content}
use Rattle.disk_content.specs.Images.{IsSound}
use Rattle.mem_disk.proofs.PastLemmas.{same_itself, counts_as}
use Rattle.disk_content.proofs.NameLemmas.{sound_made}
use Rattle.mem_disk.proofs.DiskLemmas.{is_memory, changes_not, created}
use Rattle.mem_disk.proofs.disk.MemDiskDisk.create.Goals as goal

pub returns-then-next_fails-clause-disk : goal.returns-then-next_fails-clause-disk
returns-then-next_fails-clause-disk c =
    let d = c.args.self.now in
    record {
      changes = changes_not d.now d.now d.past.items d.past.items d.schedule.faults c.next_fails.new.self.faults refl (same_itself d.now) refl (λ h. cc) (counts_as (λ h. c.if-next_fails.true) c.next_fails.ensures.cause);
      spare = omega arith;
    }

pub returns-in_err-make_room_for_moment-clause-disk : goal.returns-in_err-make_room_for_moment-clause-disk
returns-in_err-make_room_for_moment-clause-disk c =
    let d = c.args.self.now in
    rw (is_memory _ c.from_residual.ensures.1) (record {
      changes = changes_not d.now d.now d.past.items c.make_room_for_moment.new.past.items d.schedule.faults c.next_fails.new.self.faults refl (same_itself d.now) c.make_room_for_moment.ensures.items (λ h. cc) (counts_as (λ h. cc) c.next_fails.ensures.cause);
      spare = omega arith;
    })

pub returns-in_err-create-clause-disk : goal.returns-in_err-create-clause-disk
returns-in_err-create-clause-disk c =
    let d = c.args.self.now in
    let same = c.in_err-create.ensures.err in
    rw (is_memory _ c.from_residual-in_err-create.ensures.1) (record {
      changes = changes_not d.now c.create.new.self d.past.items c.make_room_for_moment.new.past.items d.schedule.faults c.next_fails.new.self.faults (ap (λ (n : Content). n.seen) same)
          (record { synced = ap (λ (n : Content). n.synced) same; writes = ap (λ (n : Content). n.pending.writes) same }) c.make_room_for_moment.ensures.items (λ h. cc) (counts_as (λ h. cc) c.next_fails.ensures.cause);
      spare = omega (arith, ap (λ (n : Content). n.pending.room) same);
    })

pub invariant_of-self-2-clause-sound : goal.invariant_of-self-2-clause-sound
invariant_of-self-2-clause-sound c = subst IsSound (sym c.in_ok-create.ensures.ok) (sound_made c.args.self.now.now c.args.name c.args.size c.args.self.now.sound (c.requires refl))

pub returns-clause-disk : goal.returns-clause-disk
returns-clause-disk c =
    let d = c.args.self.now in
    created d.now c.create.new.self d.past.items c.push_reserved.new.self.items c.of-before.result d.schedule.faults c.next_fails.new.self.faults c.args.name c.args.size _ d.sound (c.requires refl) c.of-before.ensures
    (c.push_reserved.ensures.items ∙ ap (λ l. l ++ c.of-before.result ∷ []) c.make_room_for_moment.ensures.items) c.in_ok-create.ensures.ok (counts_as (λ h. absurd h) c.next_fails.ensures.cause)
