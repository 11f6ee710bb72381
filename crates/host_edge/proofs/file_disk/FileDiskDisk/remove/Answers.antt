use Rattle.host_edge.proofs.SilentLemmas.{counted, removes}
use Rattle.host_edge.proofs.file_disk.FileDiskDisk.remove.Goals as goal

pub returns-in-Err-clause-disk : goal.returns-in-Err-clause-disk
returns-in-Err-clause-disk c = removes _ _ c.args.self.now c.fault.new.self (counted _ _ _ _ c.take_away.ensures.faults c.fault.ensures.counts)
