use Rattle.host_edge.proofs.SilentLemmas.{own_fault}
use Rattle.host_edge.proofs.file_disks.FileDisksDisks.take.Goals as goal

pub returns-in-Err-Failed-clause-cause : goal.returns-in-Err-Failed-clause-cause
returns-in-Err-Failed-clause-cause c = own_fault _ _ _ c.count_fault.ensures.later c.count_fault.ensures.counts
