use Rattle.std.proofs.Common.{◌++◌, ◌∷◌, [], refl, sym, ap, subst, ◌∙◌}
use Rattle.m3_outside.specs.Causes.{CountsFaults}
use Rattle.mem_disk.specs.Calls.{Calls}
use Rattle.disk_content.specs.Images.{IsSound}
use Rattle.mem_disk.proofs.PastLemmas.{counts_as}
use Rattle.disk_content.proofs.RestartLemmas.{sound_restart}
use Rattle.mem_disk.proofs.DiskLemmas.{is_memory, restarted, not_restarted}
use Rattle.mem_disk.proofs.disk.MemDiskDisk.restart.Goals as goal

pub returns-then-next_restart_fails-clause-disk : goal.returns-then-next_restart_fails-clause-disk
returns-then-next_restart_fails-clause-disk c =
    let d = c.args.self.now in
    not_restarted _ d.now d.now d.past.items d.past.items d.schedule.faults c.next_restart_fails.new.self.faults refl refl (counts_as (λ h. c.if-next_restart_fails.true) c.next_restart_fails.ensures.cause)

pub returns-in_err-make_room_for_moment-clause-disk : goal.returns-in_err-make_room_for_moment-clause-disk
returns-in_err-make_room_for_moment-clause-disk c =
    let d = c.args.self.now in
    rw (is_memory _ c.from_residual.ensures.1)
    (not_restarted _ d.now d.now d.past.items c.make_room_for_moment.new.past.items d.schedule.faults c.next_restart_fails.new.self.faults refl c.make_room_for_moment.ensures.items (counts_as (λ h. cc) c.next_restart_fails.ensures.cause))

pub returns-in_err-restart-clause-disk : goal.returns-in_err-restart-clause-disk
returns-in_err-restart-clause-disk c =
    let d = c.args.self.now in
    rw (is_memory _ c.from_residual-in_err-restart.ensures.1)
    (not_restarted _ d.now c.restart.new.self d.past.items c.make_room_for_moment.new.past.items d.schedule.faults c.next_restart_fails.new.self.faults c.in_err-restart.ensures.err c.make_room_for_moment.ensures.items (counts_as (λ h. cc) c.next_restart_fails.ensures.cause))

pub invariant_of-self-2-clause-sound : goal.invariant_of-self-2-clause-sound
invariant_of-self-2-clause-sound c = subst IsSound (sym c.in_ok-restart.ensures.ok) (sound_restart c.args.self.now.now c.args.pick c.args.self.now.sound)

pub returns-clause-disk : goal.returns-clause-disk
returns-clause-disk c =
    let d = c.args.self.now in
    restarted d.now c.restart.new.self d.past.items c.push_reserved.new.self.items c.of-before.result d.schedule.faults c.take_fuse_out.new.self.faults c.args.pick _ d.sound c.of-before.ensures
    (c.push_reserved.ensures.items ∙ ap (λ l. l ++ c.of-before.result ∷ []) c.make_room_for_moment.ensures.items) c.in_ok-restart.ensures.ok
    (subst (λ n. CountsFaults ⊥ d.schedule.faults n) (sym (ap (λ (s : Calls). s.faults) c.take_fuse_out.ensures)) (counts_as (λ h. absurd h) c.next_restart_fails.ensures.cause))
