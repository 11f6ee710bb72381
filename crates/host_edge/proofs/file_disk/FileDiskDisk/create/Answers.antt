use Rattle.host_edge.proofs.SilentLemmas.{counted, creates}
use Rattle.host_edge.proofs.file_disk.FileDiskDisk.create.Goals as goal

pub returns-in-Err-clause-disk : goal.returns-in-Err-clause-disk
returns-in-Err-clause-disk c = creates _ _ _ c.args.self.now c.fault.new.self (counted _ _ _ _ c.make.ensures.faults c.fault.ensures.counts)
