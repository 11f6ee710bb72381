use Rattle.lookup_tests.proofs.SilentLemmas.{silent_fault}
use Rattle.lookup_tests.proofs.counted_disk.CountedDiskDisk.read.Goals as goal

pub returns : goal.returns
returns c = silent_fault c.args.name c.args.at c.else-not-fails.buf c.fault.result c.args.self.now.faults c.fault.new.self.faults c.fault.ensures
