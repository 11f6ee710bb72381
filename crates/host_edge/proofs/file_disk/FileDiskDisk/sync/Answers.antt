use Rattle.host_edge.proofs.SilentLemmas.{counted, syncs}
use Rattle.host_edge.proofs.file_disk.FileDiskDisk.sync.Goals as goal

pub returns-in-Err-clause-disk : goal.returns-in-Err-clause-disk
returns-in-Err-clause-disk c = syncs _ _ c.args.self.now c.fault.new.self (counted _ _ _ _ c.flush.ensures.faults c.fault.ensures.counts)
