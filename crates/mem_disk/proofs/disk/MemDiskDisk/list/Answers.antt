use Rattle.std.proofs.Common.{refl, ◌∙◌, arith}
use Rattle.mem_disk.proofs.PastLemmas.{leaves_files, same_itself, counts_as}
use Rattle.mem_disk.proofs.DiskLemmas.{is_memory}
use Rattle.mem_disk.proofs.disk.MemDiskDisk.list.Goals as goal

pub returns-then-next_fails-clause-disk : goal.returns-then-next_fails-clause-disk
returns-then-next_fails-clause-disk c =
    let d = c.args.self.now in
    record {
      leaves = leaves_files d.now d.now d.past.items d.past.items d.schedule.faults c.next_fails.new.self.faults refl (same_itself d.now) refl (omega arith) (counts_as (λ h. c.if-next_fails.true) c.next_fails.ensures.cause);
      names = λ tells. tt;
    }

pub returns-in_err-names-clause-disk : goal.returns-in_err-names-clause-disk
returns-in_err-names-clause-disk c =
    let d = c.args.self.now in
    rw (is_memory _ c.from_residual.ensures.1) (record {
      leaves = leaves_files d.now d.now d.past.items d.past.items d.schedule.faults c.next_fails.new.self.faults refl (same_itself d.now) refl (omega arith) (counts_as (λ h. cc) c.next_fails.ensures.cause);
      names = λ tells. tt;
    })

pub returns-clause-disk : goal.returns-clause-disk
returns-clause-disk c =
    let d = c.args.self.now in
    record {
      leaves = leaves_files d.now d.now d.past.items d.past.items d.schedule.faults c.next_fails.new.self.faults refl (same_itself d.now) refl (omega arith) (counts_as (λ h. cc) c.next_fails.ensures.cause);
      names = λ tells. c.from_vec.ensures ∙ c.in_ok-names.ensures;
    }
