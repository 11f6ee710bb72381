use Rattle.std.proofs.Common.{refl, arith, ap}
use Rattle.disk_content.specs.Contents.{Content}
use Rattle.mem_disk.proofs.DiskLemmas.{is_memory}
use Rattle.mem_disk.proofs.PastLemmas.{leaves_files, same_itself, counts_as}
use Rattle.mem_disk.proofs.disk.MemDiskDisk.reserve.Goals as goal

pub returns-then-next_fails-clause-disk : goal.returns-then-next_fails-clause-disk
returns-then-next_fails-clause-disk c =
    let d = c.args.self.now in
    record {
      leaves = leaves_files d.now d.now d.past.items d.past.items d.schedule.faults c.next_fails.new.self.faults refl (same_itself d.now) refl (omega arith) (counts_as (λ h. c.if-next_fails.true) c.next_fails.ensures.cause);
      enough = tt;
      had = λ le wants. absurd (cc);
    }

pub returns-then-calls-room-clause-disk : goal.returns-then-calls-room-clause-disk
returns-then-calls-room-clause-disk c =
    let d = c.args.self.now in
    record {
      leaves = leaves_files d.now d.now d.past.items d.past.items d.schedule.faults c.next_fails.new.self.faults refl (same_itself d.now) refl (omega arith) (counts_as (λ h. cc) c.next_fails.ensures.cause);
      enough = omega (arith, c.if-calls-room.true, c.room.ensures);
      had = λ le wants. absurd (cc);
    }

pub returns-in_err-reserve-clause-disk : goal.returns-in_err-reserve-clause-disk
returns-in_err-reserve-clause-disk c =
    let d = c.args.self.now in
    rw (is_memory _ c.from_residual.ensures.1) (record {
      leaves = leaves_files d.now d.now d.past.items c.reserve.new.self.items d.schedule.faults c.next_fails.new.self.faults refl (same_itself d.now) c.reserve.ensures.items (omega arith) (counts_as (λ h. cc) c.next_fails.ensures.cause);
      enough = tt;
      had = λ le wants. absurd (omega (arith, le, c.if-calls-room.false));
    })

pub returns-in_err-make_room-clause-disk : goal.returns-in_err-make_room-clause-disk
returns-in_err-make_room-clause-disk c =
    let d = c.args.self.now in
    let same = c.in_err-make_room.ensures.err in
    rw (is_memory _ c.from_residual-in_err-make_room.ensures.1) (record {
      leaves = leaves_files d.now c.make_room.new.self d.past.items c.reserve.new.self.items d.schedule.faults c.next_fails.new.self.faults (ap (λ (n : Content). n.seen) same)
          (record { synced = ap (λ (n : Content). n.synced) same; writes = ap (λ (n : Content). n.pending.writes) same }) c.reserve.ensures.items (omega (arith, ap (λ (n : Content). n.pending.room) same)) (counts_as (λ h. cc) c.next_fails.ensures.cause);
      enough = tt;
      had = λ le wants. absurd (omega (arith, le, c.if-calls-room.false));
    })

pub returns-clause-disk : goal.returns-clause-disk
returns-clause-disk c =
    let d = c.args.self.now in
    let wider = c.in_ok-make_room.ensures.ok in
    record {
      leaves = leaves_files d.now c.make_room.new.self d.past.items c.reserve.new.self.items d.schedule.faults c.next_fails.new.self.faults (ap (λ (n : Content). n.seen) wider)
          (record { synced = ap (λ (n : Content). n.synced) wider; writes = ap (λ (n : Content). n.pending.writes) wider }) c.reserve.ensures.items (omega (arith, ap (λ (n : Content). n.pending.room) wider)) (counts_as (λ h. cc) c.next_fails.ensures.cause);
      enough = omega (arith, ap (λ (n : Content). n.pending.room) wider);
      had = λ le wants. absurd (cc);
    }
