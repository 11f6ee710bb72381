use Rattle.std.proofs.Common.{refl, sym, ap, ◌∙◌, arith, length, take, drop, List, ℕ}
use Rattle.mem_disk.proofs.PastLemmas.{leaves_files, same_itself, counts_as}
use Rattle.disk_content.proofs.TableLemmas.{same_found}
use Rattle.mem_disk.proofs.disk.MemDiskDisk.read.Goals as goal

pub returns-then-next_fails-clause-disk : goal.returns-then-next_fails-clause-disk
returns-then-next_fails-clause-disk c =
    let d = c.args.self.now in
    record {
      leaves = leaves_files d.now d.now d.past.items d.past.items d.schedule.faults c.next_fails.new.self.faults refl (same_itself d.now) refl (omega arith) (counts_as (λ h. c.if-next_fails.true) c.next_fails.ensures.cause);
      bytes = λ tells. tt;
    }

pub returns-in-Some-clause-disk : goal.returns-in-Some-clause-disk
returns-in-Some-clause-disk c =
    let d = c.args.self.now in
    record {
      leaves = leaves_files d.now d.now d.past.items d.past.items d.schedule.faults c.next_fails.new.self.faults refl (same_itself d.now) refl (omega arith) (counts_as (λ h. cc) c.next_fails.ensures.cause);
      bytes = λ tells file there. c.read.ensures ∙ ap (λ (l : List ℕ). take (length c.read.new.buf) (drop c.args.at l)) (same_found d.now.seen c.args.name c.in-Some.file.now file (sym c.in-Some.ensures) there);
    }
