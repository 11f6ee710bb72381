use Rattle.host_edge.proofs.SilentLemmas.{given_back}
use Rattle.host_edge.proofs.file_disks.FileDisksDisks.give.Goals as goal

pub returns-clause-cause : goal.returns-clause-cause
returns-clause-cause c = given_back _ _ _ c.give.ensures.later c.give.ensures.counts
