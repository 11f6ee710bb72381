use Rattle.std.proofs.Common.{refl, ap, ◌∙◌, arith, length, option_map, Some}
use Rattle.mem_disk.proofs.PastLemmas.{leaves_files, same_itself, counts_as}
use Rattle.mem_disk.proofs.disk.MemDiskDisk.size.Goals as goal

pub returns-then-next_fails-clause-disk : goal.returns-then-next_fails-clause-disk
returns-then-next_fails-clause-disk c =
    let d = c.args.self.now in
    record {
      leaves = leaves_files d.now d.now d.past.items d.past.items d.schedule.faults c.next_fails.new.self.faults refl (same_itself d.now) refl (omega arith) (counts_as (λ h. c.if-next_fails.true) c.next_fails.ensures.cause);
      size = λ tells. tt;
    }

pub returns-in-Some-clause-disk : goal.returns-in-Some-clause-disk
returns-in-Some-clause-disk c =
    let d = c.args.self.now in
    record {
      leaves = leaves_files d.now d.now d.past.items d.past.items d.schedule.faults c.next_fails.new.self.faults refl (same_itself d.now) refl (omega arith) (counts_as (λ h. cc) c.next_fails.ensures.cause);
      size = λ tells. ap Some c.len.ensures ∙ ap (option_map length) c.in-Some.ensures;
    }

pub returns-in-None-clause-disk : goal.returns-in-None-clause-disk
returns-in-None-clause-disk c =
    let d = c.args.self.now in
    record {
      leaves = leaves_files d.now d.now d.past.items d.past.items d.schedule.faults c.next_fails.new.self.faults refl (same_itself d.now) refl (omega arith) (counts_as (λ h. cc) c.next_fails.ensures.cause);
      size = λ tells. ap (option_map length) c.in-None.ensures;
    }
