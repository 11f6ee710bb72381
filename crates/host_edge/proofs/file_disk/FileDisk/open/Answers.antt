use Rattle.std.proofs.Common.{false}
use Rattle.host_edge.proofs.SilentLemmas.{silent_empty}
use Rattle.host_edge.proofs.file_disk.FileDisk.open.Goals as goal

pub returns-clause-empty : goal.returns-clause-empty
returns-clause-empty c = silent_empty (record { faults = 0; broken = false })
