use Rattle.std.proofs.Common.{sym, subst}
use Rattle.m3_outside.specs.DiskState.{IsEmpty}
use Rattle.disk_content.specs.Contents.{Content}
use Rattle.disk_content.specs.Images.{IsSound, disk_state}
use Rattle.mem_disk.proofs.DiskLemmas.{sound_new, empty_new}
use Rattle.mem_disk.proofs.disk.MemDisk.new.Goals as goal

pub invariant_of-result-clause-sound : goal.invariant_of-result-clause-sound
invariant_of-result-clause-sound c = subst IsSound (sym c.new-now.ensures) sound_new

pub returns-clause-empty : goal.returns-clause-empty
returns-clause-empty c = subst (λ (n : Content). IsEmpty (disk_state n c.new-past.result.items c.in_ok-schedule.schedule.faults)) (sym c.new-now.ensures) (empty_new c.new-past.result.items c.in_ok-schedule.schedule.faults)
