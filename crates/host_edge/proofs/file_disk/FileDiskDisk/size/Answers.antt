use Rattle.std.proofs.Common.{ap}
use Rattle.host_edge.specs.Silent.{FileDiskState}
use Rattle.host_edge.proofs.SilentLemmas.{counted, sizes}
use Rattle.host_edge.proofs.file_disk.FileDiskDisk.size.Goals as goal

pub returns-in-Err-clause-disk : goal.returns-in-Err-clause-disk
returns-in-Err-clause-disk c = sizes _ _ c.args.self.now c.fault.new.self (counted _ _ _ _ (ap (λ (v : FileDiskState). v.faults) c.measure.ensures.same) c.fault.ensures.counts)
